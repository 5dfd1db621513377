use Rattle.std.proofs.Common.{◌≡◌, ℤ, ap, ap₂, ◌∙◌, rules, subst}
use Rattle.std.specs.Int.{w32, cast_signed, cast_unsigned}
use Rattle.std.proofs.lemmas.Int.{to_z-of_z}
use Rattle.lsl_post.specs.Listens.{Standing, closed}
use Rattle.lsl_script.specs.Lives.{Waits}
use Rattle.lsl_script.specs.Mailing.{listening, with_listens}
use Rattle.lsl_script.proofs.Mail.{listens_are_its}
use Rattle.lsl_region.proofs.mailbox_calls.unlisten.Goals as goal

pub returns-clause-does : goal.returns-clause-does
returns-clause-does c = λ codes unit s f id k.
    let h = listens_are_its codes unit s f id c.args.live.now k in
    let same : cast_signed w32 (cast_unsigned w32 c.integer_at.result) ≡ c.integer_at.result =
    to_z-of_z w32 c.integer_at.result (search rules) in
    let e : c.close.new.self ≡ closed c.integer_at.result c.listens.result.now
    = c.close.ensures ∙ ap (λ (z : ℤ). closed z c.listens.result.now) same in
    subst (λ (l : Standing). Waits codes unit (listening l s) f id (with_listens c.close.new.self c.args.live.now))
    (e ∙ ap₂ closed c.integer_at.ensures (c.listens.ensures.value ∙ h.same)) (h.changed c.close.new.self)
