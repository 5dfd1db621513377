use Rattle.std.proofs.Common.{arith, length}
use Rattle.lsl_image.proofs.KindedLemmas.{values-end}
use Rattle.lsl_image.proofs.values.read_charged_values.Goals as goal

pub returns-clause-reads : goal.returns-clause-reads
returns-clause-reads c =
    let all = c.if-len-kinds.false in
    let count = c.len.ensures in
    rw c.from_vec.ensures
    (values-end c.args.bytes.now c.args.kinds.now (length c.read_integers-next.new.values.items)
    c.read_integers-next.result
    c.read_integers-next.new.values.items c.args.place (omega (arith, all, count)) c.read_integers-next.ensures.leads)
