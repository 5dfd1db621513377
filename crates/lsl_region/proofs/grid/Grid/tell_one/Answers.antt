use Rattle.std.proofs.Common.{◌<◌, ◌+◌, ◌∙◌, ◌++◌, List, ap, length, refl, rules, subst, sym, take}
use Rattle.std.specs.Prelude.{slice_get, slice_set}
use Rattle.std.proofs.lemmas.Option.{slice_get_within}
use Rattle.lsl_post.specs.declared.entries.Entry.{Entry}
use Rattle.lsl_region.specs.declared.grid.Seat.{Seat}
use Rattle.lsl_region.specs.Crossings.{post_in, states_in}
use Rattle.lsl_region.specs.Grids.{AreSeated, Contents}
use Rattle.lsl_region.proofs.Coming.{seat-here}
use Rattle.lsl_region.proofs.Notices.{told-entries, told-value}
use Rattle.lsl_region.proofs.Seats.{placed-set, read-at, seated-set, seated-unit}
use Rattle.lsl_region.proofs.Told.{row-kept}
use Rattle.lsl_region.proofs.grid.Grid.tell_one.Goals as goal

pub unit-unit-requires : goal.unit-unit-requires
unit-unit-requires c =
    let h : c.args.seat < length c.self.inside.seats.items = search (rules, c.requires.seat) in
    let to = c.index_mut-to.result.now in
    let at = read-at c.self.inside.seats.items c.args.seat to h c.index_mut-to.ensures.value in
    let k = c.requires.seated c.args.seat to
    (ap (λ (g : Contents). slice_get g.seats c.args.seat) (sym c.self.view_is) ∙ at) in
    slice_get_within c.args.library.now to.unit k.unit k.has

pub post_in_seat-posted-requires-clause-fits : goal.post_in_seat-posted-requires-clause-fits
post_in_seat-posted-requires-clause-fits c =
    let h : c.args.seat < length c.self.inside.seats.items = search (rules, c.requires.seat) in
    let to = c.index_mut-to.result.now in
    let at = read-at c.self.inside.seats.items c.args.seat to h c.index_mut-to.ensures.value in
    let k = c.requires.seated c.args.seat to
    (ap (λ (g : Contents). slice_get g.seats c.args.seat) (sym c.self.view_is) ∙ at) in
    seated-unit c.args.library.now to c.unit-unit.result.now k c.unit-unit.ensures.unit

pub invariant_of-self : goal.invariant_of-self
invariant_of-self c =
    let h : c.args.seat < length c.self.inside.seats.items = search (rules, c.requires.seat) in
    let to = c.index_mut-to.result.now in
    let at = read-at c.self.inside.seats.items c.args.seat to h c.index_mut-to.ensures.value in (
      placed-set c.self.inside.objects.items c.self.inside.seats.items c.args.seat to _ at refl refl
          c.self.invariant.0,
      row-kept c.self.inside.hearers c.self.inside.seats.items c.args.seat _ h
          (c.post_in_seat-posted.ensures.row _ (c.self.invariant.1.each c.args.seat to at)) c.self.invariant.1,
    )

pub returns-clause-told : goal.returns-clause-told
returns-clause-told c = λ seat sits.
    let codes = c.args.library.now in
    let number = c.args.seat + 1 in
    let to = c.index_mut-to.result.now in
    let posted = c.post_in_seat-posted in
    let is = seat-here c.args.seat to seat c.self.view_is (search (rules, c.requires.seat)) c.index_mut-to.ensures.value
    sits in
    let entries = told-entries codes c.args.event c.number.result number posted.result to seat c.unit-unit.result.now
    posted.new.script c.unit-unit.ensures.unit is c.number.ensures posted.ensures.posted in
    record {
      seats = ap (λ (t : Seat). slice_set c.self.inside.seats.items c.args.seat t)
          (told-value codes c.args.event c.number.result number posted.result to seat c.unit-unit.result.now
          posted.new.script c.unit-unit.ensures.unit is posted.ensures.script)
          ∙ ap (λ (g : Contents). slice_set g.seats c.args.seat
          (post_in (states_in codes seat.unit) c.args.event number seat seat.script).value) c.self.view_is;
      entries = c.keep_drop.ensures.entries
          ∙ ap (λ (es : List Entry). take c.args.at c.args.out.now ++ es) entries;
      next = c.keep_drop.ensures.at ∙ ap (λ (es : List Entry). c.args.at + length es) entries;
    }

pub returns-clause-kept : goal.returns-clause-kept
returns-clause-kept c =
    let codes = c.args.library.now in
    let h : c.args.seat < length c.self.inside.seats.items = search (rules, c.requires.seat) in
    let to = c.index_mut-to.result.now in
    record {
      objects = ap (λ (g : Contents). g.objects) c.self.view_is;
      cards = ap (λ (g : Contents). g.cards) c.self.view_is;
      seated = seated-set codes c.self.inside.seats.items c.args.seat
          (record to { script = c.post_in_seat-posted.new.script })
          (record {
            unit = c.unit-unit.result.now;
            has = sym c.unit-unit.ensures.unit;
            fits = c.post_in_seat-posted.ensures.fits;
          })
          (subst (λ (g : Contents). AreSeated codes g.seats) (sym c.self.view_is) c.requires.seated) h;
    }
