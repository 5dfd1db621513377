-- Where a script is after a turn, or after a call that stops it.
use Rattle.std.specs.Prelude.{◌≡◌}
use Rattle.lsl_code.specs.declared.woven_units.Woven.{Woven}
use Rattle.lsl_machine.specs.declared.standing.Standing.TheVariants as standing
use Rattle.lsl_script.specs.declared.live.Live.{Live}
use Rattle.lsl_script.specs.declared.live.Turn.{Turn}
use Rattle.lsl_script.specs.declared.live.Turn.TheVariants as turn
use Rattle.lsl_script.specs.Awake.{HasEnded, IsAskedFor, IsAwake}

abbrev pub StandsAt : Woven → Turn → Live → Type 0
StandsAt unit (turn.Asks call) live = (live.machine.standing ≡ standing.Asking call.id) × IsAskedFor call
StandsAt unit turn.AtTick live = live.machine.standing ≡ standing.AtTick
StandsAt unit turn.Ended live = HasEnded unit live
StandsAt unit (turn.Faulted fault) live = Unit {0}
StandsAt unit turn.NoMemory live = Unit {0}

-- it is awake, and has come this far
pub record IsAfter (unit : Woven) (turn : Turn) (live : Live) : Type 0 where
  pub awake : IsAwake unit live
  pub stands : StandsAt unit turn live

-- nothing but its mailbox or its time of waking changed
pub record Keeps (old new : Live) : Type 0 where
  pub awake : (unit : Woven) → IsAwake unit old → IsAwake unit new
  pub machine : new.machine ≡ old.machine
