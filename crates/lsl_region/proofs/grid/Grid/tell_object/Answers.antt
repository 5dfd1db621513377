use Rattle.std.proofs.Common.{◌≡◌, ◌<◌, ◌++◌, append-nil, length, rules, subst, sym}
use Rattle.std.specs.Prelude.{Option, IfSome, false}
use Rattle.lsl_post.specs.declared.events.Event.{Event}
use Rattle.lsl_post.specs.Journal.{Tells}
use Rattle.lsl_script.specs.Fitting.{is_exit}
use Rattle.lsl_region.specs.declared.grid.Seat.{Seat}
use Rattle.lsl_region.specs.Answers.{told_by}
use Rattle.lsl_region.specs.Arrivals.{is_in_object}
use Rattle.lsl_region.specs.Grids.{Contents}
use Rattle.lsl_region.specs.Scenes.{Awaits}
use Rattle.lsl_region.specs.Posting.{post_all}
use Rattle.lsl_region.proofs.Coming.{seat-is}
use Rattle.lsl_region.proofs.Lending.{lent-seat}
use Rattle.lsl_region.proofs.Seats.{read-at}
use Rattle.lsl_region.proofs.grid.Grid.tell_object.Goals as goal

pub invariant_of-notice : goal.invariant_of-notice
invariant_of-notice c = record {
  other = subst (λ (o : Option Event). IfSome o (λ e. is_exit e ≡ false)) c.in-Some.is c.requires.other;
}

pub returns-in-Some-clause-does : goal.returns-in-Some-clause-does
returns-in-Some-clause-does c = λ m f of w lent.
    let scene = c.args.scene.now in
    let h : scene.place < length c.self.inside.seats.items = search (rules, c.requires.awake.set.place) in
    let at = read-at c.self.inside.seats.items scene.place c.index.result.now h c.index.ensures in
    let inside : Contents = record {
      objects = c.self.inside.objects.items;
      seats = c.self.inside.seats.items;
      cards = c.self.inside.cards;
    } in
    let is = seat-is inside c.args.self.now scene.place c.index.result.now _ c.self.view_is at (lent-seat lent) in
    subst (λ (o : Option Event). Tells c.post_all_with.result
    (λ v _. Awaits scene c.post_all_with.new.self
    c.post_all_with.new.live of f v) c.args.out.now c.post_all_with.new.out (told_by m.rules lent.member.object o w))
    (sym c.in-Some.is)
    (subst (λ (s : Seat). Tells c.post_all_with.result
    (λ v _. Awaits scene c.post_all_with.new.self
    c.post_all_with.new.live of f v) c.args.out.now c.post_all_with.new.out
    (post_all m.rules (is_in_object s.object) c.in-Some.event w)) is
    (c.post_all_with.ensures.does m f of w lent))

pub returns-in-None-clause-does : goal.returns-in-None-clause-does
returns-in-None-clause-does c = λ m f of w lent.
    subst (λ (o : Option Event). Awaits c.args.scene.now c.args.self.now
    c.args.live.now of f (told_by m.rules lent.member.object o w).value
    × (c.args.out.now ≡ c.args.out.now ++ (told_by m.rules lent.member.object o w).entries)) (sym c.in-None.is)
    (lent, sym (append-nil c.args.out.now))
