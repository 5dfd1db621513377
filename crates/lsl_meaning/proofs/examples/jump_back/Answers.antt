use Rattle.std.proofs.Common.{refl}
use Rattle.std.specs.Int.{int_wrap}
use Rattle.lsl_meaning.proofs.examples.jump_back.Goals as goal

pub returns-clause-ends : goal.returns-clause-ends
unfolding int_wrap
returns-clause-ends c = refl

pub returns-clause-cut : goal.returns-clause-cut
unfolding int_wrap
returns-clause-cut c = refl
