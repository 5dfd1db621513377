use Rattle.lsl_top.proofs.OneAnswer.{answers-one}
use Rattle.lsl_top.proofs.laws.answers_are_one.Goals as goal

pub returns : goal.returns
returns c = answers-one
