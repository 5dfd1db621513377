use Rattle.std.proofs.Common.{◌∙◌, ◌<◌, List, length, ap, refl, rules}
use Rattle.std.specs.Prelude.{slice_set}
use Rattle.std.proofs.Math.ListN.{length-set}
use Rattle.std.proofs.lemmas.Option.{slice_get_within}
use Rattle.lsl_region.specs.declared.objects.Primitive.{Primitive}
use Rattle.lsl_region.specs.Grids.{Contents, outline_of}
use Rattle.lsl_region.proofs.Outlines.{outline-named}
use Rattle.lsl_region.proofs.Seats.{formed-named, named-is, object-read, placed-named, read-at}
use Rattle.lsl_region.proofs.grid.Grid.set_name.Goals as goal

pub index_mut-requires : goal.index_mut-requires
index_mut-requires c =
    let h : c.args.place < length c.self.inside.seats.items = search (rules, c.requires) in
    let q = c.self.invariant.0.placed c.args.place _
    (read-at c.self.inside.seats.items c.args.place _ h c.index-seat.ensures) in
    let k : c.index-seat.result.now.object < length c.self.inside.objects.items
    = slice_get_within c.self.inside.objects.items _ q.object q.there in
    search (rules, k)

pub rename-requires : goal.rename-requires
rename-requires c =
    let h : c.args.place < length c.self.inside.seats.items = search (rules, c.requires) in
    (object-read c.self.inside.objects.items c.self.inside.seats.items c.args.place _ c.index_mut.result.now
    c.self.invariant.0 (read-at c.self.inside.seats.items c.args.place _ h c.index-seat.ensures)
    c.index_mut.ensures.value).1

pub invariant_of-self : goal.invariant_of-self
invariant_of-self c =
    let h : c.args.place < length c.self.inside.seats.items = search (rules, c.requires) in
    let o = object-read c.self.inside.objects.items c.self.inside.seats.items c.args.place _ c.index_mut.result.now
    c.self.invariant.0 (read-at c.self.inside.seats.items c.args.place _ h c.index-seat.ensures)
    c.index_mut.ensures.value in (
      placed-named c.self.inside.objects.items c.self.inside.seats.items c.index-seat.result.now.object
          c.index_mut.result.now _ o.0
          (ap (λ (ps : List Primitive). length ps) c.rename.ensures ∙ length-set c.index_mut.result.now.prims _ _)
          (formed-named c.index_mut.result.now _ c.index-seat.result.now.prim c.args.name c.rename.ensures refl)
          c.self.invariant.0,
      c.self.invariant.1,
    )

pub returns-clause-grid : goal.returns-clause-grid
returns-clause-grid c = λ seat e.
    let h : c.args.place < length c.self.inside.seats.items = search (rules, c.requires) in
    let at = read-at c.self.inside.seats.items c.args.place _ h c.index-seat.ensures in
    let o = object-read c.self.inside.objects.items c.self.inside.seats.items c.args.place _ c.index_mut.result.now
    c.self.invariant.0 at c.index_mut.ensures.value in
    named-is _ c.args.self.now c.args.place c.index-seat.result.now seat c.index_mut.result.now c.rename.new.self
    c.args.name c.self.view_is at e o.0 c.rename.ensures

pub returns-clause-outline : goal.returns-clause-outline
returns-clause-outline c =
    let h : c.args.place < length c.self.inside.seats.items = search (rules, c.requires) in
    let inside : Contents = record {
      objects = c.self.inside.objects.items;
      seats = c.self.inside.seats.items;
      cards = c.self.inside.cards;
    } in
    let seat = c.index-seat.result.now in
    let object = c.index_mut.result.now in
    let o = object-read inside.objects inside.seats c.args.place _ object c.self.invariant.0
    (read-at inside.seats c.args.place _ h c.index-seat.ensures) c.index_mut.ensures.value in
    ap {A = List Primitive} {B = Contents} (λ prims. outline_of (record {
      objects = slice_set inside.objects seat.object (record object { prims = prims });
      seats = inside.seats;
      cards = inside.cards;
    })) c.rename.ensures
    ∙ outline-named inside seat.object object seat.prim c.args.name o.0
    ∙ ap outline_of c.self.view_is
