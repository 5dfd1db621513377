use Rattle.std.proofs.Common.{◌≡◌, List, ℕ, subst, sym, ◌∙◌}
use Rattle.std.specs.Prelude.{IfOk}
use Rattle.lsl_lex.proofs.Escapes.{plain_body}
use Rattle.lsl_lex.proofs.strings.body_text.Goals as goal

pub returns-then-not-contains : goal.returns-then-not-contains
returns-then-not-contains c =
    let same = plain_body c.args.body.now c.requires.valid (sym c.contains.ensures.value ∙ c.if-not-contains.true) in
    subst (λ (l : List ℕ). IfOk c.plain_text.result (λ text. text ≡ l)) same c.plain_text.ensures
