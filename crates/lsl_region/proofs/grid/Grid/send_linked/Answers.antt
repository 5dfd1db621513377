use Rattle.std.proofs.Common.{◌∙◌, length, ap, subst, true}
use Rattle.lsl_post.specs.Journal.{Tells}
use Rattle.lsl_post.specs.Told.{Told}
use Rattle.lsl_region.specs.declared.objects.Linkset.{Linkset}
use Rattle.lsl_region.specs.Grids.{linked_to, seat_of}
use Rattle.lsl_region.specs.Scenes.{Awaits}
use Rattle.lsl_region.specs.Posting.{admits, post_all}
use Rattle.lsl_region.specs.Worlds.{World}
use Rattle.lsl_region.proofs.Lending.{lent-seat, lent-object}
use Rattle.lsl_region.proofs.grid.Grid.send_linked.Goals as goal

pub returns-clause-does : goal.returns-clause-does
returns-clause-does c = λ m f of w lent.
    let scene = c.args.scene.now in
    let seat = seat_of scene.library.now true lent.member in
    let audience = c.linked-audience.ensures seat
    (lent-seat lent)
    ∙ ap (λ (o : Linkset). linked_to (length o.prims) seat c.args.args.now)
    (lent-object lent) in
    let event = c.in_ok-event.ensures.value scene.library.now scene.unit.now scene.clock c.args.live.now of f w lent
    in
    subst (λ (a : Told World). Tells c.post_all_with.result
    (λ v _. Awaits scene c.post_all_with.new.self c.post_all_with.new.live of f v)
    c.args.out.now c.post_all_with.new.out a)
    (λ i. post_all m.rules (admits (audience i)) (event i) w)
    (c.post_all_with.ensures.does m f of w lent)
