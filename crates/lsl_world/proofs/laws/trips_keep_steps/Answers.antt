use Rattle.lsl_world.proofs.Taking.{all-taken}
use Rattle.lsl_world.proofs.laws.trips_keep_steps.Goals as goal

pub returns : goal.returns
returns c = all-taken
