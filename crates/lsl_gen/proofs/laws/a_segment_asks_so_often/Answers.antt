use Rattle.lsl_gen.proofs.Asks.{asks_so_often}
use Rattle.lsl_gen.proofs.laws.a_segment_asks_so_often.Goals as goal

pub returns : goal.returns
returns c = asks_so_often
