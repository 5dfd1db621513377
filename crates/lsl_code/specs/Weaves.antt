-- Code that saves and restores its own calls: what a machine is saved as is its frames, and frames are restored to
-- the machine that has them.
use Rattle.std.specs.Prelude.{ℕ, ◌+◌, ◌*◌, ◌≤◌, List, length, map, sum_by}
use Rattle.lsl_code.specs.declared.frames.Frame.{Frame}
use Rattle.lsl_code.specs.declared.woven_units.Woven.{Woven}
use Rattle.lsl_code.specs.Bodies.{Body}
use Rattle.lsl_code.specs.Frames.{AreFrames, points_of}
use Rattle.lsl_code.specs.Machine.{Machine}
use Rattle.lsl_code.specs.ModeRuns.{Beside, beside_of, SaveRun, BackRun}
use Rattle.lsl_code.specs.Standing.{HasFrames}
use Rattle.lsl_code.specs.WovenBodies.{woven_body}

-- how many values they have
abbrev pub values_count : List Frame → ℕ
values_count frames = sum_by (λ frame. length frame.slots) frames

-- the most instructions that restoring frames takes
abbrev pub most_steps : List Frame → ℕ
most_steps frames = 16 + 8 * length frames + 4 * values_count frames

-- saving a machine at a tick ends with its frames, and with the same globals, limit and answers
abbrev pub SavesFrames : List Body → Type 0
SavesFrames bodies =
    (handler : ℕ) (m : Machine) (frames : List Frame) → HasFrames bodies handler m.calls frames
    → SaveRun bodies m frames (beside_of m)

-- restoring frames that fit, beside any globals, limit and answers, ends with the machine that has them, within 16
-- instructions, 8 a frame and 4 a value
abbrev pub RestoresFrames : List Body → Type 0
RestoresFrames bodies =
    (handler : ℕ) (frames : List Frame) (x : Beside) → AreFrames (points_of bodies) handler frames
    → (m : Machine) × (n : ℕ) × HasFrames bodies handler m.calls frames × (n ≤ most_steps frames)
    × BackRun bodies handler frames x m n

pub record DoesWeave (bodies : List Body) : Type 0 where
  pub saves : SavesFrames bodies
  pub restores : RestoresFrames bodies

-- the functions of a woven unit as the machine runs them
abbrev pub bodies_of : Woven → List Body
bodies_of unit = map woven_body unit.functions

-- the unit's code does so
abbrev pub Weaves : Woven → Type 0
Weaves unit = DoesWeave (bodies_of unit)
