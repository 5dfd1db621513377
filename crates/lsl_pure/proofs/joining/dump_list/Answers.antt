use Rattle.std.proofs.Common.{◌≡◌, ◌+◌, ◌<◌, List, ℕ, IfErr, length, subst}
use Rattle.lsl_pure.specs.declared.PureFault.TheVariants.{TooBig}
use Rattle.lsl_pure.specs.Joins.{dumped}
use Rattle.lsl_pure.proofs.JoinLemmas.{IfOk-spelled, dumped-spelled}
use Rattle.lsl_pure.proofs.joining.dump_list.Goals as goal

pub returns-clause-ok : goal.returns-clause-ok
returns-clause-ok c =
    IfOk-spelled c.join.result _ (dumped c.args.items.now c.args.separator.now)
    (dumped-spelled c.args.separator.now c.bytes.result.now c.args.items.now c.as_slice.result.now
    c.as_slice.ensures.value c.bytes.ensures.value) c.join.ensures.ok

pub returns-clause-too_big : goal.returns-clause-too_big
returns-clause-too_big c =
    let P : List ℕ → Type 0 = λ bs. IfErr c.join.result (λ fault. fault ≡ TooBig → 65536 < 16 + length bs) in
    subst P (dumped-spelled c.args.separator.now c.bytes.result.now c.args.items.now c.as_slice.result.now
    c.as_slice.ensures.value c.bytes.ensures.value) c.join.ensures.too_big
