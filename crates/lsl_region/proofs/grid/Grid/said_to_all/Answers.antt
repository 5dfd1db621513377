use Rattle.std.specs.Prelude.{None}
use Rattle.std.proofs.Common.{subst}
use Rattle.lsl_post.specs.declared.events.Event.{Event}
use Rattle.lsl_post.specs.Journal.{Tells}
use Rattle.lsl_region.specs.Grids.{Stands}
use Rattle.lsl_region.specs.Posting.{hears_said, post_all}
use Rattle.lsl_region.proofs.grid.Grid.said_to_all.Goals as goal

pub returns-clause-does : goal.returns-clause-does
returns-clause-does c = λ m clock w st.
    subst (λ (e : Event). Tells c.post_all.result (λ v _. Stands c.args.library.now None clock c.post_all.new.self v)
    c.args.out.now c.post_all.new.out (post_all m.rules (hears_said c.args.said) e w)) c.in_ok-event.ensures
    (c.post_all.ensures.does m clock w st)
