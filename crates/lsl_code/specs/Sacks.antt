-- Saved calls as they lie on a stack: the values of all in one list, the outermost call's first, and each call's from
-- the first on.
use Rattle.std.specs.Prelude.{ℕ, ◌-◌, ◌≡◌, ◌≤◌, List, [], ◌∷◌, ◌++◌, Option, Some, None, drop, length, reverse}
use Rattle.lsl_value.specs.declared.tagged.Value.{Value}
use Rattle.lsl_code.specs.declared.frames.Frame.{Frame}
use Rattle.lsl_code.specs.declared.frames.Mark.{Mark}
use Rattle.lsl_code.specs.declared.sacks.Top.{Top}
use Rattle.lsl_code.specs.Packs.{calls_by, end_in}
use Rattle.lsl_code.specs.Saving.{frame_of}

-- the calls whose values begin at this place, the outermost first
abbrev pub calls_in : ℕ → List Mark → List Value → List Frame
calls_in = calls_by (λ values. values)

-- the calls on a stack, the innermost first: its values lie after those of the calls around it
abbrev pub stack_frames : ℕ → ℕ → List Mark → List Value → List Frame
stack_frames function point outer values =
    frame_of function point (drop (end_in 0 outer) values) ∷ reverse (calls_in 0 outer values)

abbrev pub sack_frames : Option Top → List Mark → List Value → List Frame
sack_frames None outer values = []
sack_frames (Some top) outer values = stack_frames top.function top.point outer values

-- each call's values end where they begin or later, and the last one's here or earlier
abbrev pub EndsWithin : ℕ → List Mark → ℕ → Type 0
EndsWithin from [] to = from ≤ to
EndsWithin from (m ∷ marks) to = (from ≤ m.end) × EndsWithin m.end marks to

-- there is an innermost call, unless there is no call and no value
abbrev pub IsSack : Option Top → List Mark → List Value → Type 0
IsSack None outer values = (outer ≡ []) × (values ≡ [])
IsSack (Some top) outer values = EndsWithin 0 outer (length values)

-- the values of calls, those of the outermost first
abbrev pub values_of : List Frame → List Value
values_of [] = []
values_of (frame ∷ outer) = values_of outer ++ frame.slots

-- calls that end where they began, seen from the other end
abbrev pub seen_from_end : ℕ → ℕ → List Mark → List Mark
seen_from_end total from [] = []
seen_from_end total from (m ∷ marks) = (record m { end = total - from }) ∷ seen_from_end total m.end marks
