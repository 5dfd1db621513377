use Rattle.std.proofs.Common.{ap, length}
use Rattle.lsl_handoff.proofs.OuterLemmas.{offer-size}
use Rattle.lsl_handoff.proofs.writer.parcel_size.Goals as goal

pub returns-in-Offer-clause-size : goal.returns-in-Offer-clause-size
returns-in-Offer-clause-size c = offer-size c.args.note.now.kind c.args.note.now.parcel _ c.in-Offer.is
    (ap length c.bytes.ensures)
