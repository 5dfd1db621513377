use Rattle.std.proofs.Common.{subst}
use Rattle.lsl_post.specs.declared.events.Event.{Event}
use Rattle.lsl_post.specs.Journal.{Tells}
use Rattle.lsl_region.specs.Scenes.{Awaits}
use Rattle.lsl_region.specs.Posting.{hears_said, post_all}
use Rattle.lsl_region.proofs.grid.Grid.tell_hearers.Goals as goal

pub returns-clause-does : goal.returns-clause-does
returns-clause-does c = λ m f of w lent.
    subst (λ (e : Event). Tells c.post_all_with.result
    (λ v _. Awaits c.args.scene.now c.post_all_with.new.self c.post_all_with.new.live
    of f v)
    c.args.out.now c.post_all_with.new.out (post_all m.rules (hears_said c.args.said) e w)) c.in_ok-event.ensures
    (c.post_all_with.ensures.does m f of w lent)
