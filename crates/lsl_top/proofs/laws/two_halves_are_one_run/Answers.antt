use Rattle.lsl_top.proofs.Halves.{halves-one}
use Rattle.lsl_top.proofs.laws.two_halves_are_one_run.Goals as goal

pub returns : goal.returns
returns c = halves-one
