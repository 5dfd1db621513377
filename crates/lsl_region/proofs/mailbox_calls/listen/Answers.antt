use Rattle.std.proofs.Common.{◌≡◌, ap, ◌∙◌, rules, refl, subst, sym}
use Rattle.std.specs.Prelude.{ℤ, List, ℕ, Option, Some, None}
use Rattle.std.specs.Int.{w32, cast_signed, cast_unsigned}
use Rattle.std.proofs.lemmas.Int.{to_z-of_z}
use Rattle.lsl_value.specs.declared.tagged.Value.TheVariants as value
use Rattle.lsl_running.specs.declared.host.Reply.TheVariants as reply
use Rattle.lsl_running.specs.declared.ends.Fault.TheVariants.{TooManyListens}
use Rattle.lsl_post.specs.declared.listen.ListenFault.TheVariants.{TooMany}
use Rattle.lsl_post.specs.Filters.{filter}
use Rattle.lsl_post.specs.Listens.{Standing, listened}
use Rattle.lsl_script.specs.Lives.{Waits}
use Rattle.lsl_script.specs.Mailing.{with_listens}
use Rattle.lsl_script.proofs.Mail.{listens_are_its}
use Rattle.lsl_region.specs.Answers.{listened_reply, listened_script}
use Rattle.lsl_region.specs.Mailing.{stop_without}
use Rattle.lsl_region.proofs.mailbox_calls.listen.Goals as goal

-- what was asked for is the listen with these values
asked : (n k : ℤ) (name name' id id' text text' : List ℕ) (l l' : Standing) (o : Option (ℤ × Standing))
    → n ≡ k → name ≡ name' → id ≡ id' → text ≡ text' → l ≡ l' → listened (filter n name id text) l ≡ o
    → listened (filter k name' id' text') l' ≡ o
asked n k name name' id id' text text' l l' o a b c d e h = cc

pub returns-in-Ok-clause-does : goal.returns-in-Ok-clause-does
returns-in-Ok-clause-does c = λ codes unit s f id k.
    let h = listens_are_its codes unit s f id c.args.live.now k in
    let same : cast_signed w32 (cast_unsigned w32 c.integer_at.result) ≡ c.integer_at.result =
    to_z-of_z w32 c.integer_at.result (search rules) in
    let q : listened (filter c.integer_at.result c.in_ok-name.name c.in_ok-id.id c.in_ok-message.message)
    c.listens.result.now ≡ Some (c.in-Ok.number, c.add.new.self)
    = ap (λ (z : ℤ). listened (filter z c.in_ok-name.name c.in_ok-id.id c.in_ok-message.message) c.listens.result.now)
    (sym same) ∙ c.in-Ok.ensures in
    let all = asked _ _ _ _ _ _ _ _ _ _ _ c.integer_at.ensures c.in_ok-name.ensures c.in_ok-id.ensures
    c.in_ok-message.ensures (c.listens.ensures.value ∙ h.same) q in
    let z : cast_signed w32 (cast_unsigned w32 c.in-Ok.number) ≡ c.in-Ok.number =
    to_z-of_z w32 c.in-Ok.number (search rules) in
    subst (λ (o : Option (ℤ × Standing)). Waits codes unit (listened_script o s) f id
    (with_listens c.add.new.self c.args.live.now)
    × (reply.Value (Some (value.Int (cast_signed w32 (cast_unsigned w32 c.in-Ok.number)))) ≡ listened_reply o))
    (sym all)
    (h.changed c.add.new.self, ap (λ (n : ℤ). reply.Value (Some (value.Int n))) z)

pub returns-in-Err-TooMany-clause-does : goal.returns-in-Err-TooMany-clause-does
returns-in-Err-TooMany-clause-does c = λ codes unit s f id k.
    let h = listens_are_its codes unit s f id c.args.live.now k in
    let e = c.in-Err-TooMany.ensures in
    let t : c.in-Err-TooMany.field-0 ≡ TooMany = search rules in
    let same : cast_signed w32 (cast_unsigned w32 c.integer_at.result) ≡ c.integer_at.result =
    to_z-of_z w32 c.integer_at.result (search rules) in
    let q : listened (filter c.integer_at.result c.in_ok-name.name c.in_ok-id.id c.in_ok-message.message)
    c.listens.result.now ≡ None
    = ap (λ (z : ℤ). listened (filter z c.in_ok-name.name c.in_ok-id.id c.in_ok-message.message) c.listens.result.now)
    (sym same) ∙ e.1 t in
    let all = asked _ _ _ _ _ _ _ _ _ _ _ c.integer_at.ensures c.in_ok-name.ensures c.in_ok-id.ensures
    c.in_ok-message.ensures (c.listens.ensures.value ∙ h.same) q in
    subst (λ (o : Option (ℤ × Standing)). Waits codes unit (listened_script o s) f id
    (with_listens c.add.new.self c.args.live.now) × (reply.Stop TooManyListens ≡ listened_reply o)) (sym all) (
      subst (λ (l : Standing). Waits codes unit s f id (with_listens l c.args.live.now))
          (sym (e.0 ∙ c.listens.ensures.value)) k,
      refl,
    )

pub returns-in-Ok-clause-stop : goal.returns-in-Ok-clause-stop
returns-in-Ok-clause-stop c =
    let same : cast_signed w32 (cast_unsigned w32 c.integer_at.result) ≡ c.integer_at.result =
    to_z-of_z w32 c.integer_at.result (search rules) in
    let q : listened (filter c.integer_at.result c.in_ok-name.name c.in_ok-id.id c.in_ok-message.message)
    c.listens.result.now ≡ Some (c.in-Ok.number, c.add.new.self)
    = ap (λ (z : ℤ). listened (filter z c.in_ok-name.name c.in_ok-id.id c.in_ok-message.message) c.listens.result.now)
    (sym same) ∙ c.in-Ok.ensures in
    sym (ap stop_without (asked _ _ _ _ _ _ _ _ _ _ _ c.integer_at.ensures c.in_ok-name.ensures c.in_ok-id.ensures
    c.in_ok-message.ensures c.listens.ensures.value q))

pub returns-in-Err-TooMany-clause-stop : goal.returns-in-Err-TooMany-clause-stop
returns-in-Err-TooMany-clause-stop c =
    let e = c.in-Err-TooMany.ensures in
    let t : c.in-Err-TooMany.field-0 ≡ TooMany = search rules in
    let same : cast_signed w32 (cast_unsigned w32 c.integer_at.result) ≡ c.integer_at.result =
    to_z-of_z w32 c.integer_at.result (search rules) in
    let q : listened (filter c.integer_at.result c.in_ok-name.name c.in_ok-id.id c.in_ok-message.message)
    c.listens.result.now ≡ None
    = ap (λ (z : ℤ). listened (filter z c.in_ok-name.name c.in_ok-id.id c.in_ok-message.message) c.listens.result.now)
    (sym same) ∙ e.1 t in
    sym (ap stop_without (asked _ _ _ _ _ _ _ _ _ _ _ c.integer_at.ensures c.in_ok-name.ensures c.in_ok-id.ensures
    c.in_ok-message.ensures c.listens.ensures.value q))
