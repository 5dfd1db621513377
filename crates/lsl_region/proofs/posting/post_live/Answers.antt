use Rattle.std.proofs.Common.{ℕ, ◌+◌, subst}
use Rattle.lsl_post.specs.declared.events.Event.{Event}
use Rattle.lsl_post.specs.Journal.{Adds, Tells}
use Rattle.lsl_script.specs.Codes.{rules_of}
use Rattle.lsl_script.specs.Lives.{Waits}
use Rattle.lsl_script.specs.Scripts.{Script, entries_of_posting, post_to}
use Rattle.lsl_region.proofs.Results.{tells-from}
use Rattle.lsl_region.proofs.posting.post_live.Goals as goal

pub returns-clause-told : goal.returns-clause-told
returns-clause-told c = λ codes s f id k.
    let unit = c.args.scene.now.unit.now in
    let number : ℕ = c.args.scene.now.place + 1 in
    let d = c.post-posted.ensures.source codes s f id number k in
    subst (λ (e : Event). Tells c.tell_posted.result (λ t _. Waits codes unit t f id c.post-posted.new.self)
    c.args.out.now c.tell_posted.new.out (post_to (rules_of codes) number e s)) c.in_ok-copy.ensures
    (tells-from c.tell_posted.result (λ (t : Script). Waits codes unit t f id c.post-posted.new.self)
    (post_to (rules_of codes) number c.in_ok-copy.field-0 s) c.args.out.now c.tell_posted.new.out _ d.1 d.0
    (subst (λ (n : ℕ). Adds c.tell_posted.result c.args.out.now c.tell_posted.new.out
    (entries_of_posting n c.post-posted.result)) c.number.ensures c.tell_posted.ensures))
