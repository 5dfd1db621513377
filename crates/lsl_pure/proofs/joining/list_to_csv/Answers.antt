use Rattle.std.proofs.Common.{◌≡◌, ◌+◌, ◌<◌, ◌∷◌, [], List, ℕ, IfErr, length, subst}
use Rattle.std.specs.Prelude.{codes}
use Rattle.lsl_pure.specs.declared.PureFault.TheVariants.{TooBig}
use Rattle.lsl_pure.specs.Joins.{csv_text}
use Rattle.lsl_pure.proofs.JoinLemmas.{IfOk-spelled, comma_space, dumped-spelled}
use Rattle.lsl_pure.proofs.joining.list_to_csv.Goals as goal

pub returns-clause-ok : goal.returns-clause-ok
returns-clause-ok c =
    IfOk-spelled c.join.result _ (csv_text c.args.items.now)
    (dumped-spelled (codes ", ") (44 ∷ 32 ∷ []) c.args.items.now c.as_slice.result.now
    c.as_slice.ensures.value comma_space) c.join.ensures.ok

pub returns-clause-too_big : goal.returns-clause-too_big
returns-clause-too_big c =
    let P : List ℕ → Type 0 = λ bs. IfErr c.join.result (λ fault. fault ≡ TooBig → 65536 < 16 + length bs) in
    subst P (dumped-spelled (codes ", ") (44 ∷ 32 ∷ []) c.args.items.now c.as_slice.result.now
    c.as_slice.ensures.value comma_space) c.join.ensures.too_big
