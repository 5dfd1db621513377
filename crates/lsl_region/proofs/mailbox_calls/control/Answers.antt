use Rattle.std.proofs.Common.{◌≡◌, ap, ◌∙◌, rules, subst}
use Rattle.std.specs.Prelude.{not, pos, ℤ, Bool}
use Rattle.std.specs.Ordering.{int_eq}
use Rattle.std.specs.Int.{w32, cast_signed, cast_unsigned}
use Rattle.std.proofs.lemmas.Int.{to_z-of_z}
use Rattle.lsl_post.specs.Listens.{Standing, controlled}
use Rattle.lsl_script.specs.Lives.{Waits}
use Rattle.lsl_script.specs.Mailing.{listening, with_listens}
use Rattle.lsl_script.proofs.Mail.{listens_are_its}
use Rattle.lsl_region.specs.Answers.{integer_at}
use Rattle.lsl_region.proofs.mailbox_calls.control.Goals as goal

pub returns-clause-does : goal.returns-clause-does
returns-clause-does c = λ codes unit s f id k.
    let h = listens_are_its codes unit s f id c.args.live.now k in
    let same : cast_signed w32 (cast_unsigned w32 c.integer_at.result) ≡ c.integer_at.result =
    to_z-of_z w32 c.integer_at.result (search rules) in
    let e : c.control.new.self
    ≡ controlled (integer_at 0 c.args.args.now) (not (int_eq (integer_at 1 c.args.args.now) (pos 0))) s.mailbox.listens
    = c.control.ensures
    ∙ ap (λ (z : ℤ). controlled z c.holds.result c.listens.result.now) (same ∙ c.integer_at.ensures)
    ∙ ap (λ (b : Bool). controlled (integer_at 0 c.args.args.now) b c.listens.result.now) c.holds.ensures
    ∙ ap (controlled (integer_at 0 c.args.args.now) (not (int_eq (integer_at 1 c.args.args.now) (pos 0))))
    (c.listens.ensures.value ∙ h.same) in
    subst (λ (l : Standing). Waits codes unit (listening l s) f id (with_listens c.control.new.self c.args.live.now))
    e (h.changed c.control.new.self)
