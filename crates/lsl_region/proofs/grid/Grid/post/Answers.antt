use Rattle.std.specs.Prelude.{None}
use Rattle.std.proofs.Common.{◌≡◌, ◌-◌, rules, subst}
use Rattle.lsl_post.specs.declared.events.Event.{Event}
use Rattle.lsl_post.specs.Journal.{Tells}
use Rattle.lsl_region.specs.Arrivals.{changed_event, is_in_object, rez_event}
use Rattle.lsl_region.specs.Grids.{Stands}
use Rattle.lsl_region.specs.Posting.{post_all}
use Rattle.lsl_region.proofs.grid.Grid.post.Goals as goal

pub returns-clause-changed : goal.returns-clause-changed
returns-clause-changed c = λ is m clock w st.
    let q : c.in_ok-event.event ≡ changed_event c.args.n = search (rules, c.in_ok-event.ensures.changed is) in
    subst (λ (e : Event). Tells c.post_all.result (λ v _. Stands c.args.library.now None clock c.post_all.new.self v)
    c.args.out.now c.post_all.new.out (post_all m.rules (is_in_object (c.args.object - 1)) e w))
    q (c.post_all.ensures.does m clock w st)

pub returns-clause-rezzed : goal.returns-clause-rezzed
returns-clause-rezzed c = λ is m clock w st.
    let q : c.in_ok-event.event ≡ rez_event c.args.n = search (rules, c.in_ok-event.ensures.rezzed is) in
    subst (λ (e : Event). Tells c.post_all.result (λ v _. Stands c.args.library.now None clock c.post_all.new.self v)
    c.args.out.now c.post_all.new.out (post_all m.rules (is_in_object (c.args.object - 1)) e w))
    q (c.post_all.ensures.does m clock w st)
