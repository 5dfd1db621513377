use Rattle.std.proofs.Common.{◌≡◌, ◌<◌, ◌+◌, ◌∙◌, ◌++◌, List, ap, append_assoc, length, rules, sym, take, arith}
use Rattle.std.specs.Prelude.{get_or, option_to_list}
use Rattle.std.proofs.Math.ListN.{length-set}
use Rattle.std.proofs.lemmas.Option.{slice_get-get_or}
use Rattle.lsl_post.specs.declared.entries.Entry.{Entry}
use Rattle.lsl_post.specs.Told.{Told}
use Rattle.lsl_region.specs.declared.grid.Seat.{Seat}
use Rattle.lsl_region.specs.Crossings.{post_in_seat, region_changed}
use Rattle.lsl_region.specs.ObjectParts.{parts_in_seat}
use Rattle.lsl_region.proofs.Notices.{count-next, count_from, one-entry, posts-next, posts_from}
use Rattle.lsl_region.proofs.Reseating.{one-there}
use Rattle.lsl_region.proofs.Seats.{no_seat}
use Rattle.lsl_region.proofs.grid.Grid.tell_all.Goals as goal

pub tell_next-at-requires-clause-there : goal.tell_next-at-requires-clause-there
tell_next-at-requires-clause-there c = λ seat at own.
    let one = one-there (parts_in_seat c.args.site.now.place seat) own in
    let next = count-next c.args.site.now.place c.loop-seat.seat c.loop-seat.self.seats seat seat at in (
      omega (arith, one, next, c.loop-seat.invariant.enough),
      omega (arith, one, next, c.loop-seat.invariant.room),
    )

pub loop-seat-preserved : goal.loop-seat-preserved
loop-seat-preserved c =
    let codes = c.args.site.now.library.now in
    let place = c.args.site.now.place in
    let n = c.loop-seat.seat in
    let seats = c.loop-seat.self.seats in
    let before = c.loop-seat.invariant in
    let h : n < length seats = search rules in
    let seat : Seat = get_or seats n no_seat in
    let at = slice_get-get_or seats n no_seat h in
    let told = post_in_seat codes place region_changed (n + 1) seat in
    let new = c.tell_next-at.new.self.seats in
    let posted = c.tell_next-at.ensures.told seat at in
    let now = posted.seats in
    let is = posts-next codes place region_changed n seats new seat at now in
    let fewer : count_from place n seats
    ≡ length (option_to_list (parts_in_seat place seat)) + count_from place (n + 1) new
    = count-next place n seats seat told.value at
    ∙ ap (λ (z : List Seat). length (option_to_list (parts_in_seat place seat)) + count_from place (n + 1) z) (sym now)
    in
    let few = one-entry codes place region_changed (n + 1) seat in
    let left = c.tell_next-at.ensures.left seat at in
    let behind = posted.next in
    record {
      len = ap (λ (z : List Seat). length z) now ∙ length-set seats n told.value ∙ before.len;
      objects = c.tell_next-at.ensures.kept.objects ∙ before.objects;
      cards = c.tell_next-at.ensures.kept.cards ∙ before.cards;
      seated = c.tell_next-at.ensures.kept.seated;
      events = c.tell_next-at.ensures.events;
      enough = omega (arith, fewer, before.enough, left);
      room = omega (arith, fewer, before.room, few, behind, c.tell_next-at.ensures.len);
      value = sym (ap (λ (t : Told (List Seat)). t.value) is) ∙ before.value;
      entries = ap (λ (z : List Entry). z ++ (posts_from codes place region_changed (n + 1) new).entries)
          posted.entries
          ∙ append_assoc (take c.loop-seat.at c.loop-seat.out) told.entries
          (posts_from codes place region_changed (n + 1) new).entries
          ∙ sym (ap (λ (t : Told (List Seat)). take c.loop-seat.at c.loop-seat.out ++ t.entries) is)
          ∙ before.entries;
    }
