use Rattle.lsl_world.proofs.Staging.{plain-runs}
use Rattle.lsl_world.proofs.laws.plain_runs_travel.Goals as goal

pub returns : goal.returns
returns c = plain-runs
