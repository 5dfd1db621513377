-- Where a script is after a turn.
use Rattle.lsl_code.specs.declared.woven_units.Woven.{Woven}
use Rattle.lsl_script.specs.declared.live.Live.{Live}
use Rattle.lsl_script.specs.declared.live.Turn.{Turn}
use Rattle.lsl_script.specs.declared.live.Turn.TheVariants as turn
use Rattle.lsl_script.specs.Awake.{StandsAfter}
use Rattle.tests_world.specs.Stops.{StandsAt}

pub stands_at : (unit : Woven) (t : Turn) (live : Live) → StandsAfter unit t live → StandsAt unit t live
stands_at unit (turn.Asks call) live s = s
stands_at unit turn.AtTick live s = s
stands_at unit turn.Ended live s = s
stands_at unit (turn.Faulted fault) live s = tt
stands_at unit turn.NoMemory live s = tt
