use Rattle.lsl_world.proofs.KeptLossy.{lossy-keeps}
use Rattle.lsl_world.proofs.laws.lossy_runs_keep_steps.Goals as goal

pub returns : goal.returns
returns c = lossy-keeps
