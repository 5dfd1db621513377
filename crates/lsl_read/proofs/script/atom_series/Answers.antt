use Rattle.std.proofs.Common.{◌≡◌, [], ◌∷◌, Ok, sym, ap, ◌∙◌, rules}
use Rattle.lsl_lex.specs.declared.token_types.Sort.TheVariants.{Comma}
use Rattle.lsl_read.specs.ExpressionReading.{while_r, comma_r}
use Rattle.lsl_read.specs.ScriptGrammar.{added}
use Rattle.lsl_read.specs.ScriptReading.{atom_r}
use Rattle.lsl_read.proofs.ScriptLoops.{atom_less, atom_step}
use Rattle.lsl_read.proofs.script.atom_series.Goals as goal

pub more-smaller : goal.more-smaller
more-smaller c =
    let before = c.more.all.items in
    let now : comma_r added atom_r before c.more.rest.now
    ≡ Ok (added before c.in_ok-next.next, c.in_ok-next.after.now) = search rules in
    atom_less before (added before c.in_ok-next.next) c.more.rest.now c.in_ok-next.after.now now

pub more-preserved : goal.more-preserved
more-preserved c =
    let before = c.more.all.items in
    let now : comma_r added atom_r before c.more.rest.now
    ≡ Ok (added before c.in_ok-next.next, c.in_ok-next.after.now) = search rules in
    let pushed : c.push-in-more.new.self.items ≡ added before c.in_ok-next.next = search rules in
    ap (λ x. while_r (Comma ∷ []) (comma_r added atom_r) x c.in_ok-next.after.now) pushed
    ∙ sym (atom_step before (added before c.in_ok-next.next) c.more.rest.now c.in_ok-next.after.now (search rules) now)
    ∙ c.more.invariant
