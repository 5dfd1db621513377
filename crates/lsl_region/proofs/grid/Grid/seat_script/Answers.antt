use Rattle.std.proofs.Common.{◌≡◌, ◌<◌, ◌∙◌, ap, length, refl, rules, subst, sym}
use Rattle.std.specs.Prelude.{Option, Some, is_some, slice_get, slice_set}
use Rattle.std.proofs.lemmas.Bool.{false≢true}
use Rattle.std.proofs.lemmas.Option.{slice_get_within}
use Rattle.lsl_post.specs.declared.parts.ScriptParts.{ScriptParts}
use Rattle.lsl_region.specs.Hearing.{listens_on}
use Rattle.lsl_region.specs.declared.grid.Seat.{Seat}
use Rattle.lsl_region.specs.Grids.{AreSeated, Contents, IsSeated}
use Rattle.lsl_region.proofs.Coming.{seat-here}
use Rattle.lsl_region.proofs.Told.{row-set}
use Rattle.lsl_region.proofs.Seats.{placed-set, read-at, seated-set, seated-unit}
use Rattle.lsl_region.proofs.grid.Grid.seat_script.Goals as goal

pub unit-unit-requires : goal.unit-unit-requires
unit-unit-requires c =
    let h : c.args.seat < length c.self.inside.seats.items = search (rules, c.requires.seat) in
    let seat = c.index.result.now in
    let at = read-at c.self.inside.seats.items c.args.seat seat h c.index.ensures in
    let k = c.requires.fits seat (ap (λ (g : Contents). slice_get g.seats c.args.seat) (sym c.self.view_is) ∙ at) in
    slice_get_within c.args.library.now seat.unit k.unit k.has

pub unreachable-requires : goal.unreachable-requires
unreachable-requires c =
    let h : c.args.seat < length c.self.inside.seats.items = search (rules, c.requires.seat) in
    let seat = c.index_mut.result.now in
    let at = read-at c.self.inside.seats.items c.args.seat seat h c.index_mut.ensures.value in
    let there = c.requires.there seat (ap (λ (g : Contents). slice_get g.seats c.args.seat) (sym c.self.view_is) ∙ at)
    in
    false≢true (ap (λ (s : Option ScriptParts). is_some s) (sym c.in_default.is) ∙ there)

pub set_parts-requires : goal.set_parts-requires
set_parts-requires c =
    let h : c.args.seat < length c.self.inside.seats.items = search (rules, c.requires.seat) in
    let seat = c.index.result.now in
    let at = read-at c.self.inside.seats.items c.args.seat seat h c.index.ensures in
    let k = c.requires.fits seat (ap (λ (g : Contents). slice_get g.seats c.args.seat) (sym c.self.view_is) ∙ at) in
    seated-unit c.args.library.now (record seat { script = Some c.args.parts }) c.unit-unit.result.now k
    c.unit-unit.ensures.unit

pub invariant_of-self : goal.invariant_of-self
invariant_of-self c =
    let h : c.args.seat < length c.self.inside.seats.items = search (rules, c.requires.seat) in
    let told : c.set_parts.new.self ≡ c.args.parts = c.set_parts.ensures in (
      placed-set c.self.inside.objects.items c.self.inside.seats.items c.args.seat c.index_mut.result.now _
          (read-at c.self.inside.seats.items c.args.seat _ h c.index_mut.ensures.value) refl refl c.self.invariant.0,
      row-set c.self.inside.hearers c.follow.new.self c.self.inside.seats.items c.args.seat _ h
          c.follow.ensures.count c.follow.ensures.others
          (λ channel. c.follow.ensures.told channel
          ∙ ap (λ (parts : ScriptParts). listens_on channel parts.listens) (sym told)) c.self.invariant.1,
    )

pub returns-clause-seats : goal.returns-clause-seats
returns-clause-seats c = λ seat sits.
    let is = seat-here c.args.seat c.index_mut.result.now seat c.self.view_is (search (rules, c.requires.seat))
    c.index_mut.ensures.value sits in
    let told : c.set_parts.new.self ≡ c.args.parts = c.set_parts.ensures in
    ap (λ (p : ScriptParts). slice_set c.self.inside.seats.items c.args.seat
    (record c.index_mut.result.now { script = Some p })) told
    ∙ ap (λ (x : Seat). slice_set c.self.inside.seats.items c.args.seat (record x { script = Some c.args.parts })) is
    ∙ ap (λ (g : Contents). slice_set g.seats c.args.seat (record seat { script = Some c.args.parts })) c.self.view_is

pub returns-clause-kept : goal.returns-clause-kept
returns-clause-kept c =
    let h : c.args.seat < length c.self.inside.seats.items = search (rules, c.requires.seat) in
    let seat = c.index_mut.result.now in
    let at = read-at c.self.inside.seats.items c.args.seat seat h c.index_mut.ensures.value in
    let there = ap (λ (g : Contents). slice_get g.seats c.args.seat) (sym c.self.view_is) ∙ at in
    let told : c.set_parts.new.self ≡ c.args.parts = c.set_parts.ensures in
    let k : IsSeated c.args.library.now (record seat { script = Some c.set_parts.new.self })
    = subst (λ (p : ScriptParts). IsSeated c.args.library.now (record seat { script = Some p }))
    (sym told) (c.requires.fits seat there) in
    record {
      objects = ap (λ (g : Contents). g.objects) c.self.view_is;
      cards = ap (λ (g : Contents). g.cards) c.self.view_is;
      seated = seated-set c.args.library.now c.self.inside.seats.items c.args.seat
          (record seat { script = Some c.set_parts.new.self }) k
          (subst (λ (g : Contents). AreSeated c.args.library.now g.seats) (sym c.self.view_is) c.requires.seated) h;
    }
