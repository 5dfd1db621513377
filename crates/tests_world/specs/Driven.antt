-- Machines of a handler that can run, and those at a tick.
use Rattle.std.specs.Prelude.{◌≡◌, ◌≤◌, ℕ}
use Rattle.lsl_running.specs.Charging.{default_limit}
use Rattle.lsl_code.specs.declared.woven_units.Woven.{Woven}
use Rattle.lsl_code.specs.Weaves.{bodies_of}
use Rattle.lsl_code.specs.Frames.{AreValid, points_of}
use Rattle.lsl_code.specs.Kinds.{kinds_of}
use Rattle.lsl_machine.specs.declared.Parked.{Parked}
use Rattle.lsl_machine.specs.State.{State, CanRun, IsOf, IsChained, IsCharged}
use Rattle.lsl_machine.specs.declared.standing.Standing.TheVariants as standing

pub record CanGoOn (unit : Woven) (handler : ℕ) (s : State) : Type 0 where
  pub able : CanRun s.standing
  pub of : IsOf unit s
  pub chained : IsChained (bodies_of unit) handler s

pub record IsAtTick (unit : Woven) (handler : ℕ) (s : State) : Type 0 where
  pub stands : s.standing ≡ standing.AtTick
  pub of : IsOf unit s
  pub chained : IsChained (bodies_of unit) handler s
  pub charged : IsCharged s

-- what was saved can be restored
pub record IsParked (unit : Woven) (handler : ℕ) (parked : Parked) : Type 0 where
  pub valid : AreValid (points_of (bodies_of unit)) handler parked.kept.globals parked.kept.limit parked.sack
  pub globals : kinds_of parked.kept.globals ≡ kinds_of unit.globals
  pub limit : parked.kept.limit ≤ default_limit
