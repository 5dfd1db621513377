use Rattle.std.proofs.Common.{◌≡◌, ◌<◌, ◌+◌, ◌∙◌, ◌++◌, List, ap, append-nil, length, rules, subst, sym, take, arith}
use Rattle.std.specs.Prelude.{Some, is_some, slice_get, slice_set}
use Rattle.std.proofs.lemmas.Bool.{false≢true}
use Rattle.std.proofs.lemmas.List.{length_push}
use Rattle.std.proofs.lemmas.List.Elements.{All-pop}
use Rattle.lsl_post.specs.declared.events.Event.{Event}
use Rattle.lsl_post.specs.Told.{Told}
use Rattle.lsl_region.specs.declared.grid.Seat.{Seat}
use Rattle.lsl_region.specs.Crossings.{IsPosted, post_in, region_changed, states_in}
use Rattle.lsl_region.specs.Grids.{Contents}
use Rattle.lsl_region.specs.ObjectParts.{parts_in_seat}
use Rattle.lsl_region.proofs.Coming.{seat-here}
use Rattle.lsl_region.proofs.Notices.{post-other, post-own}
use Rattle.lsl_region.proofs.Reseating.{one-there}
use Rattle.lsl_region.proofs.Seats.{read-at, set-same}
use Rattle.lsl_region.proofs.grid.Grid.tell_next.Goals as goal

pub returns-then-not-is_of-clause-told : goal.returns-then-not-is_of-clause-told
returns-then-not-is_of-clause-told c = λ seat sits.
    let site = c.args.site.now in
    let is = seat-here c.args.seat c.index.result.now seat c.self.view_is (search (rules, c.requires.seat))
    c.index.ensures sits in
    let other = post-other site.library.now site.place region_changed (c.args.seat + 1) seat
    (ap (λ (z : Seat). is_some (parts_in_seat site.place z)) (sym is) ∙ sym c.is_of.ensures ∙ c.if-not-is_of.true) in
    let none = ap (λ (t : Told Seat). length t.entries) other in
    record {
      seats = sym (ap (λ (t : Told Seat). slice_set c.args.self.now.seats c.args.seat t.value) other
          ∙ set-same c.args.self.now.seats c.args.seat seat sits);
      entries = sym (ap (λ (t : Told Seat). take c.args.at c.args.out.now ++ t.entries) other
          ∙ append-nil (take c.args.at c.args.out.now));
      next = omega (arith, none);
    }

pub unreachable-requires : goal.unreachable-requires
unreachable-requires c =
    let h : c.args.seat < length c.self.inside.seats.items = search (rules, c.requires.seat) in
    let at = read-at c.self.inside.seats.items c.args.seat c.index.result.now h c.index.ensures in
    let there = c.requires.there c.index.result.now
    (ap (λ (g : Contents). slice_get g.seats c.args.seat) (sym c.self.view_is) ∙ at)
    (sym c.is_of.ensures ∙ c.if-not-is_of.false) in
    false≢true (c.in_default.ensures.variant.1 (omega (arith, there.0, c.args.events.now.ok.0)))

pub tell_one-requires-clause-at : goal.tell_one-requires-clause-at
tell_one-requires-clause-at c =
    let h : c.args.seat < length c.self.inside.seats.items = search (rules, c.requires.seat) in
    let at = read-at c.self.inside.seats.items c.args.seat c.index.result.now h c.index.ensures in
    (c.requires.there c.index.result.now
    (ap (λ (g : Contents). slice_get g.seats c.args.seat) (sym c.self.view_is) ∙ at)
    (sym c.is_of.ensures ∙ c.if-not-is_of.false)).1

pub returns-clause-told : goal.returns-clause-told
returns-clause-told c = λ seat sits.
    let site = c.args.site.now in
    let number = c.args.seat + 1 in
    let is = seat-here c.args.seat c.index.result.now seat c.self.view_is (search (rules, c.requires.seat))
    c.index.ensures sits in
    let event = (All-pop (λ (e : Event). e ≡ region_changed) c.args.events.now.items c.pop.new.self.items
    (Some c.in-Some.event) c.in-Some.ensures.items c.requires.events).1 in
    let own = post-own site.library.now site.place region_changed number seat
    (ap (λ (z : Seat). is_some (parts_in_seat site.place z)) (sym is) ∙ sym c.is_of.ensures ∙ c.if-not-is_of.false) in
    subst (λ (t : Told Seat). IsPosted t c.args.seat c.args.self.now c.tell_one.new.self c.args.at c.tell_one.result
    c.args.out.now c.tell_one.new.out) (sym own)
    (subst (λ (e : Event). IsPosted (post_in (states_in site.library.now seat.unit) e number seat seat.script)
    c.args.seat c.args.self.now c.tell_one.new.self c.args.at c.tell_one.result c.args.out.now c.tell_one.new.out) event
    (c.tell_one.ensures.told seat sits))

pub returns-clause-left : goal.returns-clause-left
returns-clause-left c = λ seat sits.
    let is = seat-here c.args.seat c.index.result.now seat c.self.view_is (search (rules, c.requires.seat))
    c.index.ensures sits in
    let site = c.args.site.now in
    let one = one-there (parts_in_seat site.place seat)
    (ap (λ (z : Seat). is_some (parts_in_seat site.place z)) (sym is) ∙ sym c.is_of.ensures ∙ c.if-not-is_of.false) in
    let popped = ap (λ (es : List Event). length es) c.in-Some.ensures.items in
    omega (arith, one, popped, length_push c.pop.new.self.items c.in-Some.event)
