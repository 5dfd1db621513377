use Rattle.std.proofs.Common.{ap, arith, length}
use Rattle.std.proofs.lemmas.List.Folds.{length-flat_map-take}
use Rattle.lsl_ops.specs.Operations.{atoms_of}
use Rattle.lsl_machine.proofs.Charges.{elements_few}
use Rattle.lsl_machine.proofs.operating.list_of.Goals as goal

pub push_element-requires : goal.push_element-requires
push_element-requires c =
    let xs = c.args.values.now in
    let i = c.loop-value.value-index in
    let few = elements_few xs in
    let step = length-flat_map-take atoms_of xs i c.value-item.result c.loop-value-test.true in
    let is = ap (λ v. length (atoms_of v)) c.value-item.is in
    let all = ap length c.loop-value.invariant in
    let q = c.requires in
    omega arith
