use Rattle.std.proofs.Common.{◌∙◌, List, ℕ, ap, subst, rules, w32, FitsSigned}
use Rattle.std.specs.Fmt.{signed_decimal}
use Rattle.std.specs.Str.{IsUtf8}
use Rattle.std.proofs.lemmas.Int.{to_z-of_z}
use Rattle.std.proofs.lemmas.Str.{IsUtf8-from_ascii}
use Rattle.lsl_pure.proofs.JoinLemmas.{spelled_integer, OnOk-appended}
use Rattle.lsl_pure.proofs.joining.push_atom.Goals as goal

pub returns-in-Int-clause-ok : goal.returns-in-Int-clause-ok
returns-in-Int-clause-ok c =
    let fits : FitsSigned w32 c.in-Int.n = search rules in
    let same = spelled_integer c.args.atom.now c.in-Int.n c.format.result.now c.in-Int.is
    (c.format.ensures.text ∙ ap signed_decimal (to_z-of_z w32 c.in-Int.n fits)) c.format.ensures.ascii in
    OnOk-appended c.extend_from_slice.result _ _ _ _ c.extend_from_slice.ensures.items (c.as_bytes.ensures.value ∙ same)

pub returns-in-Int-clause-valid : goal.returns-in-Int-clause-valid
returns-in-Int-clause-valid c =
    let fits : FitsSigned w32 c.in-Int.n = search rules in
    let same = spelled_integer c.args.atom.now c.in-Int.n c.format.result.now c.in-Int.is
    (c.format.ensures.text ∙ ap signed_decimal (to_z-of_z w32 c.in-Int.n fits)) c.format.ensures.ascii in
    let P : List ℕ → Type 0 = λ bs. IsUtf8 bs in
    subst P same (IsUtf8-from_ascii c.format.result.now c.format.ensures.ascii)
