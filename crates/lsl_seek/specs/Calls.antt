-- The calls that a script is in, as the moments up to one tell them.
use Rattle.std.specs.Prelude.{ℕ, ◌==◌, Bool, true, false, not, cond, ◌&&◌, List, Option, Some, None}
use Rattle.std.specs.List.{find}
use Rattle.lsl_seek.specs.Entries.{is_said}
use Rattle.lsl_seek.specs.Moments.{Moment}
use Rattle.lsl_seek.specs.declared.entry.Sort.{Sort}
use Rattle.lsl_seek.specs.declared.entry.Sort.TheVariants.{Leave, Took, Speech, Apart, Other}

abbrev pub is_leave : Sort → Bool
is_leave Leave = true
is_leave _ = false

abbrev pub is_apart : Sort → Bool
is_apart Apart = true
is_apart _ = false

-- An entry says in which call its script is. After the end of a handler, and after a fault, it is in none. The other
-- lines of the journal say nothing of it.
abbrev pub tells_call : Sort → Bool
tells_call Took = false
tells_call Speech = false
tells_call Apart = false
tells_call Other = false
tells_call _ = true

-- the call that a script is in after this moment, which tells it; where a call is left it is its caller
abbrev pub call_told : Option Moment → ℕ
call_told None = 0
call_told (Some m) = cond (is_said m.sort) 0 (cond (is_leave m.sort) m.line.outer m.line.serial)

abbrev pub tells_call_of : ℕ → Moment → Bool
tells_call_of script m = m.line.script == script && tells_call m.sort

-- the call that a script is in after these moments, the latest first, or 0
abbrev pub call_after : ℕ → List Moment → ℕ
call_after script past = call_told (find (tells_call_of script) past)

-- the call that is in hand at a moment, after these: a line of the journal is said in the call that its script was in
abbrev pub call_at : Moment → List Moment → ℕ
call_at m past = cond (is_said m.sort) (cond (is_apart m.sort) 0 (call_after m.line.script past)) m.line.serial

-- an entry of this call
abbrev pub is_of_call : ℕ → Moment → Bool
is_of_call call m = not (m.line.mark == 0) && m.line.serial == call

abbrev pub outer_of : Option Moment → ℕ
outer_of None = 0
outer_of (Some m) = m.line.outer

-- the call from which a call was made, by its latest entry of these, or 0
abbrev pub caller : ℕ → List Moment → ℕ
caller call past = outer_of (find (is_of_call call) past)

abbrev pub mark_in : Option Moment → ℕ
mark_in None = 0
mark_in (Some m) = m.line.mark

-- the mark of a call's latest entry of these, or 0
abbrev pub mark_of : ℕ → List Moment → ℕ
mark_of call past = mark_in (find (is_of_call call) past)
