use Rattle.std.proofs.Common.{◌≡◌, ◌∙◌, ap, refl, subst, sym, true}
use Rattle.std.specs.Prelude.{OnOk, IfOk, Some, None}
use Rattle.lsl_running.specs.declared.host.Reply.{Reply}
use Rattle.lsl_running.specs.declared.host.Reply.TheVariants as reply
use Rattle.lsl_code.specs.Kinded.{Answers}
use Rattle.lsl_post.specs.Journal.{Tells}
use Rattle.lsl_region.specs.declared.objects.Linkset.{Linkset}
use Rattle.lsl_region.specs.declared.store_calls.Change.{Change}
use Rattle.lsl_region.specs.Answers.{change_by, pairs_by, replied, told_by, with_store}
use Rattle.lsl_region.specs.Grids.{Contents, seat_of, stored_grid}
use Rattle.lsl_region.specs.Scenes.{Awaits, IsSet}
use Rattle.lsl_region.specs.Mailing.{stop_of}
use Rattle.lsl_region.specs.Worlds.{Member, World, object_of}
use Rattle.lsl_region.proofs.Lending.{lent-seat, lent-object, lent-stored}
use Rattle.lsl_region.proofs.Results.{IfOk-answered, OnOk-answered, tells-answered}
use Rattle.lsl_region.proofs.Scenes.{set-same}
use Rattle.lsl_region.proofs.grid.Grid.answer_store.Goals as goal

pub tell_object-told-requires-clause-awake : goal.tell_object-told-requires-clause-awake
tell_object-told-requires-clause-awake c = record {
  set = set-same c.requires.awake.set c.change_store.ensures.seats;
  awake = c.requires.awake.awake;
}

pub returns-clause-does : goal.returns-clause-does
returns-clause-does c = λ m f of w lent.
    let scene = c.args.scene.now in
    let id = c.args.id in
    let args = c.args.args.now in
    let old = c.args.self.now in
    let seat = seat_of scene.library.now true lent.member in
    let at = lent-seat lent in
    let o = lent-object lent in
    let pairs = pairs_by id args (object_of w lent.member).store in
    let v = with_store w lent.member pairs in
    let grid = c.in_ok-change.ensures.grid seat at
    ∙ ap (λ (z : Linkset). stored_grid old seat (pairs_by id args z.store)) o in
    let change = c.in_ok-change.ensures.change seat at ∙ ap (λ (z : Linkset). change_by id args z.store) o in
    let there = subst (λ (g : Contents). Awaits scene g c.args.live.now of f v) (sym grid)
    (lent-stored lent pairs) in
    let same : Some there.member ≡ Some lent.member = sym there.at ∙ lent.at in
    let member : there.member ≡ lent.member = cc in
    let d = subst (λ (k : Member). Tells c.tell_object-told.result
    (λ v _. Awaits scene c.tell_object-told.new.self c.tell_object-told.new.live of f v) c.args.out.now
    c.tell_object-told.new.out (told_by m.rules k.object c.in_ok-change.change.told v)) member
    (c.tell_object-told.ensures.does m f of v there) in
    subst (λ (z : Change). Tells c.answered.result
    (λ (x : World × Reply) given. Awaits scene c.tell_object-told.new.self c.tell_object-told.new.live of
    f x.0 × (given ≡ x.1)) c.args.out.now c.tell_object-told.new.out
    (replied (reply.Value z.answer) (told_by m.rules lent.member.object z.told v))) change
    (subst (λ (r : _). Tells r
    (λ (x : World × Reply) given. Awaits scene c.tell_object-told.new.self c.tell_object-told.new.live of
    f x.0 × (given ≡ x.1)) c.args.out.now c.tell_object-told.new.out
    (replied (reply.Value c.in_ok-change.change.answer) (told_by m.rules lent.member.object
    c.in_ok-change.change.told v)))
    (sym c.answered.ensures)
    (tells-answered c.tell_object-told.result (reply.Value c.in_ok-change.change.answer)
    (λ u. Awaits scene c.tell_object-told.new.self c.tell_object-told.new.live of f u) c.args.out.now
    c.tell_object-told.new.out (told_by m.rules lent.member.object c.in_ok-change.change.told v) d))

pub returns-clause-fits : goal.returns-clause-fits
returns-clause-fits c =
    subst (λ (r : _). IfOk r (Answers c.args.id)) (sym c.answered.ensures)
    (IfOk-answered c.tell_object-told.result (reply.Value c.in_ok-change.change.answer) (Answers c.args.id)
    c.in_ok-change.ensures.fits)

pub returns-clause-stop : goal.returns-clause-stop
returns-clause-stop c =
    subst (λ (r : _). IfOk r (λ given. stop_of given ≡ None)) (sym c.answered.ensures)
    (IfOk-answered c.tell_object-told.result (reply.Value c.in_ok-change.change.answer)
    (λ given. stop_of given ≡ None) refl)

pub returns-clause-grid : goal.returns-clause-grid
returns-clause-grid c = record {
  set = subst (λ (r : _). OnOk r (IsSet c.args.scene.now c.tell_object-told.new.self)) (sym c.answered.ensures)
      (OnOk-answered c.tell_object-told.result (reply.Value c.in_ok-change.change.answer)
      (IsSet c.args.scene.now c.tell_object-told.new.self) c.tell_object-told.ensures.grid.set);
  outline = c.tell_object-told.ensures.grid.outline ∙ c.change_store.ensures.outline;
}
