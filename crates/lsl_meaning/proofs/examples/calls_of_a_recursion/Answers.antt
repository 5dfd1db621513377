use Rattle.std.proofs.Common.{refl}
use Rattle.std.specs.Int.{int_wrap}
use Rattle.lsl_meaning.proofs.examples.calls_of_a_recursion.Goals as goal

pub returns : goal.returns
unfolding int_wrap
returns c = refl
