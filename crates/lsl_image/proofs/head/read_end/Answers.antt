use Rattle.std.proofs.Common.{eq-eqb, length, ne_eqb}
use Rattle.lsl_image.proofs.HeadLemmas.{end-right, end-wrong}
use Rattle.lsl_image.proofs.head.read_end.Goals as goal

pub returns-then-place-bytes : goal.returns-then-place-bytes
returns-then-place-bytes c = rw c.wrong.ensures (end-wrong c.args.bytes.now (length c.args.bytes.now) c.args.place
    (ne_eqb c.args.place (length c.args.bytes.now) c.if-place-bytes.true))

pub returns : goal.returns
returns c = end-right c.args.bytes.now (length c.args.bytes.now) c.args.place
    (eq-eqb c.args.place (length c.args.bytes.now) c.if-place-bytes.false)
