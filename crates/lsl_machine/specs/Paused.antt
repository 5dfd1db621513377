-- A machine that is saved and restored in place.
use Rattle.std.specs.Prelude.{◌≡◌, ◌≤◌, ℕ, List, vec_capacity}
use Rattle.lsl_code.specs.declared.frames.Frame.{Frame}
use Rattle.lsl_code.specs.Bodies.{Body}
use Rattle.lsl_code.specs.Frames.{AreValid, points_of}
use Rattle.lsl_code.specs.Sacks.{values_of}
use Rattle.lsl_machine.specs.declared.layouts.Layout.{Layout}
use Rattle.lsl_machine.specs.declared.running.Running.{Running}
use Rattle.lsl_machine.specs.CallsRestored.{IsRestored}
use Rattle.lsl_machine.specs.CallsSaved.{AreSaved}
use Rattle.lsl_machine.specs.Laid.{kept_of, machine_of}

-- whatever frames its calls are saved as, they are valid
abbrev pub SavesValid : List Body → ℕ → Running → Type 0
SavesValid bodies handler r =
    (frames : List Frame) → AreSaved bodies (machine_of r).calls frames
    → AreValid (points_of bodies) handler r.globals.items r.limit frames

-- it was saved as frames, which were restored beside its globals and its limit
pub record IsPaused (bodies : List Body) (handler : ℕ) (old new : Running) : Type 0 where
  pub frames : List Frame
  pub saved : AreSaved bodies (machine_of old).calls frames
  pub steps : ℕ
  pub restored : IsRestored bodies handler frames (kept_of old) new steps

-- it has these calls and the values of these frames, beside its globals
pub record HasSettled (l : Layout) (frames : List Frame) (old new : Running) : Type 0 where
  pub stack : new.stack.items ≡ values_of frames
  pub callers : new.callers ≡ l.callers
  pub active : new.active ≡ l.active
  pub globals : new.globals ≡ old.globals
  pub global_charge : new.global_charge ≡ old.global_charge
  pub limit : new.limit ≡ old.limit
  pub room : l.room ≤ vec_capacity new.stack
