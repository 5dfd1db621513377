use Rattle.lsl_world.proofs.Runs.{counts-then}
use Rattle.lsl_world.proofs.laws.two_lists_are_two_counts.Goals as goal

pub returns : goal.returns
returns c = counts-then
