use Rattle.std.proofs.Common.{◌<◌, ◌≤◌, ◌+◌, ◌∙◌, List, ap, drop, length, reverse, rules, subst, sym}
use Rattle.std.specs.Prelude.{map, slice_set}
use Rattle.std.specs.List.{AllByRecursion, filter_map}
use Rattle.std.proofs.Math.ListN.{length-set}
use Rattle.std.proofs.lemmas.Option.{slice_get-get_or}
use Rattle.std.specs.Prelude.{get_or}
use Rattle.lsl_post.specs.declared.parts.ScriptParts.{ScriptParts}
use Rattle.lsl_image.specs.Valid.{HasUnit, unit_number}
use Rattle.lsl_region.specs.declared.grid.Seat.{Seat}
use Rattle.lsl_region.specs.ObjectParts.{behind_first, parts_in_seat, with_first}
use Rattle.lsl_region.proofs.Furnishing.{reseated-count}
use Rattle.lsl_region.proofs.Reseating.{reseat-end, reseat-one, reseat_from, reverse-last, scripts-here, seats-fit, units-next, valid-next}
use Rattle.lsl_region.proofs.Seats.{no_seat}
use Rattle.lsl_region.proofs.grid.Grid.reseat.Goals as goal

pub reseat_next-requires-clause-fits : goal.reseat_next-requires-clause-fits
reseat_next-requires-clause-fits c = λ seat others parts at own items.
    seats-fit c.args.library.now c.args.place c.loop-seat.seat c.loop-seat.self.seats seat parts (reverse others)
    (reverse c.loop-seat.scripts.items) at own (reverse-last c.loop-seat.scripts.items others parts items)
    c.loop-seat.invariant.valid c.loop-seat.invariant.units

pub loop-seat-preserved : goal.loop-seat-preserved
loop-seat-preserved c =
    let codes = c.args.library.now in
    let place = c.args.place in
    let n = c.loop-seat.seat in
    let seats = c.loop-seat.self.seats in
    let scripts = reverse c.loop-seat.scripts.items in
    let before = c.loop-seat.invariant in
    let h : n < length seats = search rules in
    let seat : Seat = get_or seats n no_seat in
    let at = slice_get-get_or seats n no_seat h in
    let p = parts_in_seat place seat in
    let t = with_first seat p scripts in
    let now = c.reseat_next.ensures.seats seat at in
    let left = c.reseat_next.ensures.scripts seat at in
    record {
      len = ap (λ (z : List Seat). length z) now ∙ length-set seats n t ∙ before.len;
      objects = c.reseat_next.ensures.kept.objects ∙ before.objects;
      cards = c.reseat_next.ensures.kept.cards ∙ before.cards;
      seated = c.reseat_next.ensures.kept.seated;
      valid = subst (λ (z : List ScriptParts). AllByRecursion (HasUnit codes) z) (sym left)
          (valid-next (HasUnit codes) p scripts before.valid);
      units = ap (map unit_number) left
          ∙ units-next scripts (filter_map (parts_in_seat place) (drop (n + 1) (slice_set seats n t))) p
          (before.units ∙ ap (map unit_number) (scripts-here place n seats seat t at))
          ∙ ap (λ (z : List Seat). map unit_number (filter_map (parts_in_seat place) (drop (n + 1) z))) (sym now);
      whole = ap (λ (z : List ScriptParts). reseat_from place (n + 1) z c.reseat_next.new.self.seats) left
          ∙ ap (λ (z : List Seat). reseat_from place (n + 1) (behind_first p scripts) z) now
          ∙ reseat-one place n scripts seats seat at
          ∙ before.whole;
    }

pub returns-clause-count : goal.returns-clause-count
returns-clause-count c =
    let h : length c.loop-seat.self.seats ≤ c.loop-seat.seat = search rules in
    ap (λ (z : List Seat). length (filter_map (parts_in_seat c.args.place) z))
    (sym (reseat-end c.args.place c.loop-seat.seat (reverse c.loop-seat.scripts.items) c.loop-seat.self.seats h)
    ∙ c.loop-seat.invariant.whole)
    ∙ reseated-count c.args.place c.args.scripts c.args.self.now.seats
