use Rattle.std.proofs.Common.{◌≡◌, ◌<◌, ◌∙◌, ap, [], get_or, length, refl, rules, subst, sym}
use Rattle.std.specs.Prelude.{Option, Some, None, slice_get}
use Rattle.lsl_post.specs.declared.parts.ScriptParts.{ScriptParts}
use Rattle.lsl_region.specs.declared.grid.Seat.{Seat}
use Rattle.lsl_region.specs.Grids.{Contents, outline_of}
use Rattle.lsl_region.specs.Hearing.{HasRow}
use Rattle.lsl_region.specs.Turning.{with_seated}
use Rattle.lsl_region.proofs.Coming.{ready-there, seat-here}
use Rattle.lsl_region.proofs.Told.{row-kept}
use Rattle.lsl_region.proofs.Outlines.{outline-seated}
use Rattle.lsl_region.proofs.Seats.{placed-set, read-at}
use Rattle.lsl_region.proofs.grid.Grid.wake_at.Goals as goal

pub wake_into-requires : goal.wake_into-requires
wake_into-requires c =
    let h : c.args.place < length c.self.inside.seats.items = search (rules, c.requires.place) in
    let seat = c.index_mut-seat.result.now in
    let at = read-at c.self.inside.seats.items c.args.place seat h c.index_mut-seat.ensures.value in
    let sits : slice_get c.args.self.now.seats c.args.place ≡ Some seat
    = ap (λ (g : Contents). slice_get g.seats c.args.place) (sym c.self.view_is) ∙ at in
    let there = ready-there c.requires.ready.0 c.args.unit.now seat.script (c.requires.ready.1 seat sits)
    (c.requires.fits seat sits) in
    record { fits = there.0; ready = there.1; weaves = c.requires.weaves }

pub invariant_of-self : goal.invariant_of-self
invariant_of-self c =
    let h : c.args.place < length c.self.inside.seats.items = search (rules, c.requires.place) in (
      placed-set c.self.inside.objects.items c.self.inside.seats.items c.args.place c.index_mut-seat.result.now _
          (read-at c.self.inside.seats.items c.args.place _ h c.index_mut-seat.ensures.value) refl refl
          c.self.invariant.0,
      row-kept c.self.inside.hearers c.self.inside.seats.items c.args.place _ h
          (subst (λ (script : Option ScriptParts). HasRow (get_or c.self.inside.hearers c.args.place []) script)
          (sym c.wake_into.ensures.gone) tt) c.self.invariant.1,
    )

pub returns-clause-seats : goal.returns-clause-seats
returns-clause-seats c = λ seat sits.
    let x = c.index_mut-seat.result.now in
    let is = seat-here c.args.place x seat c.self.view_is (search (rules, c.requires.place))
    c.index_mut-seat.ensures.value sits in
    let inside : Contents = record {
      objects = c.self.inside.objects.items;
      seats = c.self.inside.seats.items;
      cards = c.self.inside.cards;
    } in
    ap (λ (script : Option ScriptParts). with_seated inside c.args.place x script) c.wake_into.ensures.gone
    ∙ ap (λ (z : Seat). with_seated inside c.args.place z None) is
    ∙ ap (λ (g : Contents). with_seated g c.args.place seat None) c.self.view_is

pub returns-clause-source : goal.returns-clause-source
returns-clause-source c = λ seat codes s sits has script lawful.
    let is = seat-here c.args.place c.index_mut-seat.result.now seat c.self.view_is (search (rules, c.requires.place))
    c.index_mut-seat.ensures.value sits in
    c.wake_into.ensures.source codes s has (ap (λ (z : Seat). z.script) is ∙ script) lawful

pub returns-clause-outline : goal.returns-clause-outline
returns-clause-outline c =
    let h : c.args.place < length c.self.inside.seats.items = search (rules, c.requires.place) in
    let inside : Contents = record {
      objects = c.self.inside.objects.items;
      seats = c.self.inside.seats.items;
      cards = c.self.inside.cards;
    } in
    outline-seated inside c.args.place c.index_mut-seat.result.now _
    (read-at c.self.inside.seats.items c.args.place _ h c.index_mut-seat.ensures.value) refl
    ∙ ap outline_of c.self.view_is
