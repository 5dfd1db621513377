use Rattle.lsl_world.proofs.Runs.{travel-then}
use Rattle.lsl_world.proofs.laws.two_lists_are_two_travels.Goals as goal

pub returns : goal.returns
returns c = travel-then
