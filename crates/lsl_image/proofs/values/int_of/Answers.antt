use Rattle.lsl_image.proofs.KindedLemmas.{int-given}
use Rattle.lsl_image.proofs.values.int_of.Goals as goal

pub returns-in-Int : goal.returns-in-Int
returns-in-Int c = int-given c.args.bytes.now c.args.kind c.args.place _ c.in-Int.is c.take_int.ensures
