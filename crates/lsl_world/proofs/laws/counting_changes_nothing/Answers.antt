use Rattle.lsl_world.proofs.Saving.{rounds-forget}
use Rattle.lsl_world.proofs.laws.counting_changes_nothing.Goals as goal

pub returns : goal.returns
returns c = rounds-forget
