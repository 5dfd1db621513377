use Rattle.std.proofs.Common.{arith}
use Rattle.lsl_handoff.proofs.NoteLengths.{length-fields}
use Rattle.lsl_handoff.proofs.writer.size_of.Goals as goal

pub returns : goal.returns
returns c = omega (arith, c.parcel_size.ensures.size, length-fields c.args.note.now)
