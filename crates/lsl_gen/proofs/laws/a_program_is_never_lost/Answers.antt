use Rattle.lsl_gen.proofs.NeverLost.{is_never_lost}
use Rattle.lsl_gen.proofs.laws.a_program_is_never_lost.Goals as goal

pub returns : goal.returns
returns c = is_never_lost
