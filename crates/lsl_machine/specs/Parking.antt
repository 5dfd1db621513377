-- A machine at a tick, and its saved form.
use Rattle.std.specs.Prelude.{◌≡◌, ℕ, List, []}
use Rattle.lsl_running.specs.declared.kept.Kept.{Kept}
use Rattle.lsl_code.specs.declared.frames.Frame.{Frame}
use Rattle.lsl_code.specs.Bodies.{Body}
use Rattle.lsl_code.specs.Standing.{HasFrames}
use Rattle.lsl_machine.specs.State.{State}
use Rattle.lsl_machine.specs.declared.standing.Standing.TheVariants as standing

-- the machine is at a tick, these are its frames, and this it keeps
pub record HasParked (bodies : List Body) (handler : ℕ) (s : State) (frames : List Frame) (kept : Kept) : Type 0
  where
    pub stands : s.standing ≡ standing.AtTick
    pub frames_are : HasFrames bodies handler s.machine.calls frames
    pub keeps : s.machine.kept ≡ kept
    pub answers : s.machine.answers ≡ []
