use Rattle.std.proofs.Common.{◌≡◌, List, ℕ, subst, sym, ◌∙◌}
use Rattle.std.specs.Prelude.{IfOk}
use Rattle.std.specs.Cmp.Lexicographic.{bytes_decides}
use Rattle.lsl_lex.proofs.Scanned.{name_held}
use Rattle.lsl_lex.proofs.names.Names.text.Goals as goal

pub returns-then-eq : goal.returns-then-eq
returns-then-eq c =
    let name = c.args.name.now in
    let same : c.bytes.result.now ≡ name = (bytes_decides c.bytes.result.now name).0 (sym c.if-eq.ensures) in
    let held : c.in-Some.held.now ≡ name =
    name_held name c.in-Some.held.now c.requires.name (sym c.bytes.ensures.value ∙ same) in
    subst (λ (l : List ℕ). IfOk c.copy.result (λ text. text ≡ l)) held c.copy.ensures
