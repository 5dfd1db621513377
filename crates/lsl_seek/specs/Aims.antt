-- What a moment is, that a move looks for.
use Rattle.std.specs.Prelude.{ℕ, ◌-◌, ◌==◌, nat_eq, nat_le, nat_lt, Bool, true, false, not, cond, ◌&&◌, ◌||◌, List, [], ◌∷◌, length, map, slice_index, slice_range, Option, Some, None}
use Rattle.std.specs.List.{starts_with}
use Rattle.std.specs.Option.{option_map}
use Rattle.std.specs.Str.{bytes_eq}
use Rattle.lsl_seek.specs.Bytes.{before, after}
use Rattle.lsl_seek.specs.Entries.{is_stop}
use Rattle.lsl_seek.specs.Tables.{Place}
use Rattle.lsl_seek.specs.Moments.{Moment, numbered, marks_of}
use Rattle.lsl_seek.specs.declared.aim.Aim.{Aim}
use Rattle.lsl_seek.specs.declared.aim.Aim.TheVariants.{Any, From, Of, Outside, Segment, Turn, Handler, Line as AtLine, Routine, If, Changes, Event, Said, Fault as AtFault}
use Rattle.lsl_seek.specs.declared.entry.Sort.{Sort}
use Rattle.lsl_seek.specs.declared.entry.Sort.TheVariants.{Enter, Statement, Again, Took, Fault, Speech}
use Rattle.lsl_seek.specs.declared.trace.Trace.{Trace}

abbrev pub is_enter : Sort → Bool
is_enter Enter = true
is_enter _ = false

abbrev pub is_statement : Sort → Bool
is_statement Statement = true
is_statement _ = false

-- a statement, or a loop's condition
abbrev pub is_begun : Sort → Bool
is_begun Statement = true
is_begun Again = true
is_begun _ = false

abbrev pub is_took : Sort → Bool
is_took Took = true
is_took _ = false

abbrev pub is_fault : Sort → Bool
is_fault Fault = true
is_fault _ = false

abbrev pub is_speech : Sort → Bool
is_speech Speech = true
is_speech _ = false

-- Of the moments before one, the latest first:

-- step and segment of the last stop
abbrev pub stop_place : List Moment → Option (ℕ × ℕ)
stop_place [] = None
stop_place (m ∷ past) = cond (is_stop m.sort) (Some (m.line.step, m.line.segment)) (stop_place past)

-- an event was taken after that stop
abbrev pub took_since : List Moment → Bool
took_since [] = false
took_since (m ∷ past) = is_took m.sort || (not (is_stop m.sort) && took_since past)

-- the mark of the moment before
abbrev pub mark_before : List Moment → ℕ
mark_before [] = 0
mark_before (m ∷ past) = m.line.mark

-- A call is within another one if that made it, or a call within that. Its last entry says which call made it.
abbrev pub is_within : ℕ → ℕ → List Moment → Bool
is_within call serial [] = false
is_within call serial (m ∷ past) =
    cond (not (m.line.mark == 0) && m.line.serial == serial)
    (m.line.outer == call || is_within call m.line.outer past)
    (is_within call serial past)

abbrev pub is_at : Option (ℕ × ℕ) → ℕ → ℕ → Bool
is_at None step segment = false
is_at (Some place) step segment = place.0 == step && place.1 == segment

abbrev pub is_in : Option (ℕ × ℕ) → ℕ → Bool
is_in None step = false
is_in (Some place) step = place.0 == step

abbrev pub is_quoted : List ℕ → Bool
is_quoted text = nat_le 2 (length text) && (slice_index text 0 == 34 && slice_index text (length text - 1) == 34)

-- a quoted text that was cut: two dots stand after it
abbrev pub is_cut : List ℕ → Bool
is_cut text = nat_le 4 (length text) && (slice_index text 0 == 34 && (slice_index text (length text - 3) == 34
    && (slice_index text (length text - 2) == 46 && slice_index text (length text - 1) == 46)))

-- a quoted text without its quotes
unfoldable pub unquoted : List ℕ → List ℕ
unquoted text = cond (is_quoted text) (slice_range text 1 (length text - 1))
    (cond (is_cut text) (slice_range text 1 (length text - 3)) text)

-- of a handler, STATE.EVENT, the event; and a function's name
abbrev pub last_part : List ℕ → List ℕ
last_part routine = cond (length (after 46 routine) == 0) (before 46 routine) (after 46 routine)

-- the third word of a line
abbrev pub event_of : List ℕ → List ℕ
event_of said = before 32 (after 32 (after 32 said))

-- a part stands in a text
unfoldable pub contains : List ℕ → List ℕ → Bool
contains [] part = length part == 0
contains (b ∷ text) part = starts_with nat_eq (b ∷ text) part || contains text part

abbrev pub files_of : Trace → List (List ℕ)
files_of trace = map (λ name. name.now) trace.files.items

abbrev pub is_file : Option (List ℕ) → Option (List ℕ) → Bool
is_file None name = true
is_file (Some wanted) (Some name) = bytes_eq (unquoted name) wanted
is_file (Some wanted) None = false

abbrev pub is_entered : Option Place → List ℕ → Bool
is_entered None name = false
is_entered (Some it) name = is_enter it.sort && bytes_eq (last_part it.routine) name

abbrev pub is_script : Option ℕ → ℕ → Bool
is_script None script = true
is_script (Some wanted) script = wanted == script

-- a condition on a variable's value
abbrev pub asks_values : Aim → Bool
asks_values (If test) = true
asks_values (Changes name) = true
asks_values _ = false

abbrev pub is_after : Moment → ℕ → ℕ → Bool
is_after m step segment = nat_lt step m.line.step || (m.line.step == step && nat_le segment m.line.segment)

abbrev pub is_on_line : Trace → Option Place → Option (List ℕ) → ℕ → Bool
is_on_line trace None file line = false
is_on_line trace (Some it) file line = it.line == line && is_file file (numbered (files_of trace) it.unit)

-- whether a moment is one that an aim asks for, after these, the latest first; said of aims that ask for no values
unfoldable pub meets : Trace → Aim → Moment → List Moment → Bool
meets trace Any m past = true
meets trace (From step segment) m past = is_stop m.sort && is_after m step segment
meets trace (Of script) m past = is_stop m.sort && m.line.script == script
meets trace (Outside script call) m past = is_stop m.sort && (m.line.script == script
    && (is_fault m.sort || not (is_within call m.line.serial (m ∷ past))))
meets trace (Segment step segment) m past = is_stop m.sort
    && (not (m.line.step == step && m.line.segment == segment) && not (is_at (stop_place past) m.line.step m.line.segment))
meets trace (Turn step) m past = is_stop m.sort && (not (m.line.step == step) && not (is_in (stop_place past) m.line.step))
meets trace Handler m past = is_stop m.sort && took_since past
meets trace (AtLine file line) m past = is_begun m.sort
    && is_on_line trace (numbered (marks_of trace) m.line.mark) (option_map (λ it. it.now) file) line
meets trace (Routine name) m past = is_statement m.sort && is_entered (numbered (marks_of trace) (mark_before past)) name.now
meets trace (Event name script) m past = is_took m.sort && (bytes_eq (event_of m.line.said) name.now && is_script script m.line.script)
meets trace (Said text) m past = is_speech m.sort && contains m.line.said text.now
meets trace AtFault m past = is_fault m.sort
meets trace (If test) m past = false
meets trace (Changes name) m past = false
