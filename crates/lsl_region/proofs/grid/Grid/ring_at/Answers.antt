use Rattle.std.proofs.Common.{◌≡◌, ◌<◌, ℕ, ◌+◌, length, rules, refl, ap, sym, ◌∙◌, subst}
use Rattle.std.specs.Prelude.{None, Some, slice_get, slice_set}
use Rattle.std.proofs.lemmas.Option.{slice_get_within}
use Rattle.lsl_post.specs.Journal.{Tells}
use Rattle.lsl_post.specs.Told.{Told}
use Rattle.lsl_script.specs.Codes.{HasUnit, rules_of}
use Rattle.lsl_script.specs.Parts.{parts_of}
use Rattle.lsl_script.specs.Scripts.{ring_to}
use Rattle.lsl_region.specs.declared.grid.Seat.{Seat}
use Rattle.lsl_region.specs.Grids.{AreSeated, Contents, FitsSeat, Stands, outline_of}
use Rattle.lsl_region.specs.Worlds.{Member, World}
use Rattle.lsl_region.proofs.Told.{row-kept}
use Rattle.lsl_region.proofs.Placed.{changed}
use Rattle.lsl_region.proofs.Rings.{ring-script, rings-same}
use Rattle.lsl_region.proofs.Results.{OnOk-map}
use Rattle.lsl_region.proofs.Outlines.{outline-seated}
use Rattle.lsl_region.proofs.Seats.{placed-set, read-at, seated-set, seated-unit}
use Rattle.lsl_region.proofs.grid.Grid.ring_at.Goals as goal

pub unit-unit-requires : goal.unit-unit-requires
unit-unit-requires c =
    let h : c.args.place < length c.self.inside.seats.items = search (rules, c.requires.place) in
    let seat = c.index_mut-seat.result.now in
    let at = read-at c.self.inside.seats.items c.args.place seat h c.index_mut-seat.ensures.value in
    let k = c.requires.seated c.args.place seat
    (ap (λ (g : Contents). slice_get g.seats c.args.place) (sym c.self.view_is) ∙ at) in
    slice_get_within c.args.library.now seat.unit k.unit k.has

pub ring_seat-requires-clause-fits : goal.ring_seat-requires-clause-fits
ring_seat-requires-clause-fits c =
    let h : c.args.place < length c.self.inside.seats.items = search (rules, c.requires.place) in
    let seat = c.index_mut-seat.result.now in
    let at = read-at c.self.inside.seats.items c.args.place seat h c.index_mut-seat.ensures.value in
    let k = c.requires.seated c.args.place seat
    (ap (λ (g : Contents). slice_get g.seats c.args.place) (sym c.self.view_is) ∙ at) in
    seated-unit c.args.library.now seat c.unit-unit.result.now k c.unit-unit.ensures.unit

pub invariant_of-self : goal.invariant_of-self
invariant_of-self c =
    let h : c.args.place < length c.self.inside.seats.items = search (rules, c.requires.place) in
    let seat = c.index_mut-seat.result.now in
    let at = read-at c.self.inside.seats.items c.args.place seat h c.index_mut-seat.ensures.value in (
      placed-set c.self.inside.objects.items c.self.inside.seats.items c.args.place seat _ at refl refl
          c.self.invariant.0,
      row-kept c.self.inside.hearers c.self.inside.seats.items c.args.place _ h
          (c.ring_seat.ensures.row _ (c.self.invariant.1.each c.args.place seat at)) c.self.invariant.1,
    )

pub returns-clause-does : goal.returns-clause-does
returns-clause-does c = λ m w old.
    let codes = c.args.library.now in
    let place = c.args.place in
    let clock = c.args.clock in
    let inside : Contents = record {
      objects = c.self.inside.objects.items;
      seats = c.self.inside.seats.items;
      cards = c.self.inside.cards;
    } in
    let st : Stands codes None clock inside w
    = subst (λ (g : Contents). Stands codes None clock g w) (sym c.self.view_is) old in
    let seat = c.index_mut-seat.result.now in
    let h : place < length c.self.inside.seats.items = search (rules, c.requires.place) in
    let at = read-at c.self.inside.seats.items place seat h c.index_mut-seat.ensures.value in
    let new : Contents = record {
      objects = c.self.inside.objects.items;
      seats = slice_set c.self.inside.seats.items place (record seat { script = c.ring_seat.new.seat });
      cards = c.self.inside.cards;
    } in
    subst (λ (a : Told World). Tells c.ring_seat.result (λ v _. Stands codes None clock new v) c.args.out.now
    c.ring_seat.new.out a) (rings-same codes m None clock inside w st place)
    (changed codes None clock inside new w place seat c.ring_seat.new.seat
    (λ (k : Member). ring_to (rules_of codes) (place + 1) w.clock k.script)
    st refl at refl refl refl
    (λ k l. ring-script codes (rules_of codes) (place + 1) w.clock k.script l)
    c.ring_seat.result _ _
    (λ k j is.
    let script : seat.script ≡ Some (parts_of codes k.script) = ap (λ (z : Seat). z.script) is in
    let has : HasUnit codes k.script.code c.unit-unit.result.now
    = ap (slice_get codes) (ap (λ (z : Seat). z.unit) (sym is)) ∙ sym c.unit-unit.ensures.unit in
    subst (λ (n : ℕ). Tells c.ring_seat.result (λ u _. c.ring_seat.new.seat ≡ Some (parts_of codes u))
    c.args.out.now c.ring_seat.new.out (ring_to (rules_of codes) (place + 1) n k.script)) (sym st.time)
    (subst (λ (n : ℕ). Tells c.ring_seat.result (λ u _. c.ring_seat.new.seat ≡ Some (parts_of codes u))
    c.args.out.now c.ring_seat.new.out (ring_to (rules_of codes) n clock k.script)) c.number.ensures
    (c.ring_seat.ensures.told codes k.script has script (st.scripts place k j).lawful))))

pub returns-clause-grid : goal.returns-clause-grid
returns-clause-grid c =
    let codes = c.args.library.now in
    let h : c.args.place < length c.self.inside.seats.items = search (rules, c.requires.place) in
    let seat = c.index_mut-seat.result.now in
    let inside : Contents = record {
      objects = c.self.inside.objects.items;
      seats = c.self.inside.seats.items;
      cards = c.self.inside.cards;
    } in
    record {
      seated = OnOk-map c.ring_seat.result (FitsSeat c.unit-unit.result.now c.ring_seat.new.seat) _
          (λ fits. seated-set codes c.self.inside.seats.items c.args.place
          (record seat { script = c.ring_seat.new.seat })
          (record { unit = c.unit-unit.result.now; has = sym c.unit-unit.ensures.unit; fits = fits })
          (subst (λ (g : Contents). AreSeated codes g.seats) (sym c.self.view_is) c.requires.seated) h)
          c.ring_seat.ensures.fits;
      outline = outline-seated inside c.args.place seat _
          (read-at c.self.inside.seats.items c.args.place _ h c.index_mut-seat.ensures.value) refl
          ∙ ap outline_of c.self.view_is;
    }
