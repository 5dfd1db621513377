use Rattle.std.proofs.Common.{◌+◌, take, sum_by, ap, arith}
use Rattle.std.proofs.lemmas.List.Sums.{sum_by_more, sum_by-take-le}
use Rattle.lsl_value.specs.Atoms.{item_charge_of}
use Rattle.lsl_ops.proofs.casts.joined_text.Goals as goal

pub push_atom-requires : goal.push_atom-requires
push_atom-requires c =
    let xs = c.as_slice-atom-items.result.now in
    let i = c.loop-atom.atom-index in
    let more = sum_by_more item_charge_of xs i c.atom-item.result c.loop-atom-test.true in
    let item = ap item_charge_of c.atom-item.is in
    let part = sum_by-take-le item_charge_of xs (i + 1) in
    let front = ap (λ atoms. sum_by item_charge_of (take i atoms)) c.as_slice-atom-items.ensures.value in
    let whole = ap (sum_by item_charge_of) c.as_slice-atom-items.ensures.value in
    omega (arith, c.loop-atom.invariant.short)
