-- Saved calls with values in one list: those of each call after those of the call before it, and of each the last
-- first.
use Rattle.std.specs.Prelude.{ℕ, ◌-◌, ◌≡◌, ◌≤◌, List, [], ◌∷◌, take, drop, reverse}
use Rattle.lsl_value.specs.declared.tagged.Value.{Value}
use Rattle.lsl_code.specs.declared.frames.Frame.{Frame}
use Rattle.lsl_code.specs.declared.frames.Mark.{Mark}
use Rattle.lsl_code.specs.Saving.{frame_of}

-- the saved calls, and the values of one that is being made or taken apart
pub record Packed : Type 0 where
  pub frames : List Frame
  pub hand : List Value

abbrev pub packed : List Frame → List Value → Packed
packed frames hand = record { frames = frames; hand = hand }

-- the values from one place up to another
abbrev pub values_between : ℕ → ℕ → List Value → List Value
values_between from to values = take (to - from) (drop from values)

-- the calls whose values begin at this place, with this done to the values of each
abbrev pub calls_by : (List Value → List Value) → ℕ → List Mark → List Value → List Frame
calls_by order from [] values = []
calls_by order from (m ∷ marks) values =
    frame_of m.function m.point (order (values_between from m.end values)) ∷ calls_by order m.end marks values

abbrev pub frames_in : ℕ → List Mark → List Value → List Frame
frames_in = calls_by reverse

-- each call's values end where they begin, or later, and the last one's at this place
abbrev pub EndAt : ℕ → List Mark → ℕ → Type 0
EndAt from [] to = from ≡ to
EndAt from (m ∷ marks) to = (from ≤ m.end) × EndAt m.end marks to

-- where the values of the last call end
abbrev pub end_in : ℕ → List Mark → ℕ
end_in from [] = from
end_in from (m ∷ marks) = end_in m.end marks
