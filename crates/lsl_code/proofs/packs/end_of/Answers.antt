use Rattle.lsl_code.proofs.Packing.{end_is}
use Rattle.lsl_code.proofs.packs.end_of.Goals as goal

pub returns-in-Some : goal.returns-in-Some
returns-in-Some c = end_is 0 c.args.marks.now c.in-Some.mark.now c.in-Some.ensures.value
