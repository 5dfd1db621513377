use Rattle.std.proofs.Common.{◌∙◌, ap, length, rules, w32, FitsSigned}
use Rattle.std.specs.Fmt.{signed_decimal}
use Rattle.std.proofs.lemmas.Int.{to_z-of_z}
use Rattle.lsl_pure.proofs.JoinLemmas.{spelled_integer}
use Rattle.lsl_pure.proofs.joining.atom_len.Goals as goal

pub returns-in-Int-clause-value : goal.returns-in-Int-clause-value
returns-in-Int-clause-value c =
    let fits : FitsSigned w32 c.in-Int.n = search rules in
    ap length (spelled_integer c.args.atom.now c.in-Int.n c.format.result.now c.in-Int.is
    (c.format.ensures.text ∙ ap signed_decimal (to_z-of_z w32 c.in-Int.n fits)) c.format.ensures.ascii)
