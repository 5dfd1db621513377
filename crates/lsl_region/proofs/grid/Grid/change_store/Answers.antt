use Rattle.std.proofs.Common.{◌<◌, ◌∙◌, length, ap, refl, rules}
use Rattle.std.proofs.lemmas.Option.{slice_get_within}
use Rattle.lsl_region.specs.declared.objects.Linkset.{Linkset}
use Rattle.lsl_region.specs.Answers.{change_by, pairs_by}
use Rattle.lsl_region.specs.Grids.{Contents, outline_of}
use Rattle.lsl_region.proofs.Outlines.{outline-stored}
use Rattle.lsl_region.proofs.Results.{IfOk-map, OnOk-map}
use Rattle.lsl_region.proofs.Seats.{formed-stored, object-is, object-read, placed-named, read-at, stored-is}
use Rattle.lsl_region.proofs.grid.Grid.change_store.Goals as goal

pub index_mut-requires : goal.index_mut-requires
index_mut-requires c =
    let h : c.args.place < length c.self.inside.seats.items = search (rules, c.requires.place) in
    let q = c.self.invariant.0.placed c.args.place _
    (read-at c.self.inside.seats.items c.args.place _ h c.index.ensures) in
    let k : c.index.result.now.object < length c.self.inside.objects.items
    = slice_get_within c.self.inside.objects.items _ q.object q.there in
    search (rules, k)

pub invariant_of-self : goal.invariant_of-self
invariant_of-self c =
    let h : c.args.place < length c.self.inside.seats.items = search (rules, c.requires.place) in
    let o = object-read c.self.inside.objects.items c.self.inside.seats.items c.args.place _ c.index_mut.result.now
    c.self.invariant.0 (read-at c.self.inside.seats.items c.args.place _ h c.index.ensures)
    c.index_mut.ensures.value in (
      placed-named c.self.inside.objects.items c.self.inside.seats.items c.index.result.now.object
          c.index_mut.result.now _ o.0 refl
          (λ f. formed-stored c.index_mut.result.now _ refl (c.changed.ensures.kept f.stored) f)
          c.self.invariant.0,
      c.self.invariant.1,
    )

pub returns-clause-change : goal.returns-clause-change
returns-clause-change c = λ seat e.
    let h : c.args.place < length c.self.inside.seats.items = search (rules, c.requires.place) in
    let at = read-at c.self.inside.seats.items c.args.place _ h c.index.ensures in
    let o = object-read c.self.inside.objects.items c.self.inside.seats.items c.args.place _ c.index_mut.result.now
    c.self.invariant.0 at c.index_mut.ensures.value in
    let k = object-is _ c.args.self.now c.args.place c.index.result.now seat c.index_mut.result.now
    c.self.view_is at e o.0 in
    IfOk-map c.changed.result _ _
    (λ x is. is ∙ ap (λ (z : Linkset). change_by c.args.id c.args.args.now z.store) k.1) c.changed.ensures.change

pub returns-clause-grid : goal.returns-clause-grid
returns-clause-grid c = λ seat e.
    let h : c.args.place < length c.self.inside.seats.items = search (rules, c.requires.place) in
    let at = read-at c.self.inside.seats.items c.args.place _ h c.index.ensures in
    let o = object-read c.self.inside.objects.items c.self.inside.seats.items c.args.place _ c.index_mut.result.now
    c.self.invariant.0 at c.index_mut.ensures.value in
    OnOk-map c.changed.result _ _
    (stored-is _ c.args.self.now c.args.place c.index.result.now seat c.index_mut.result.now
    (pairs_by c.args.id c.args.args.now) c.changed.new.store c.self.view_is at e o.0)
    c.changed.ensures.pairs

pub returns-clause-outline : goal.returns-clause-outline
returns-clause-outline c =
    let h : c.args.place < length c.self.inside.seats.items = search (rules, c.requires.place) in
    let inside : Contents = record {
      objects = c.self.inside.objects.items;
      seats = c.self.inside.seats.items;
      cards = c.self.inside.cards;
    } in
    let seat = c.index.result.now in
    let object = c.index_mut.result.now in
    let o = object-read inside.objects inside.seats c.args.place _ object c.self.invariant.0
    (read-at inside.seats c.args.place _ h c.index.ensures) c.index_mut.ensures.value in
    outline-stored inside seat.object object c.changed.new.store o.0
    ∙ ap outline_of c.self.view_is
