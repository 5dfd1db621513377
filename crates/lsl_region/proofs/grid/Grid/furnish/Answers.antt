use Rattle.std.proofs.Common.{◌<◌, ◌∙◌, List, ap, length, rules}
use Rattle.std.specs.Prelude.{map}
use Rattle.lsl_region.specs.declared.objects.Linkset.{Linkset}
use Rattle.lsl_region.specs.declared.objects.Primitive.{Primitive}
use Rattle.lsl_region.specs.Grids.{Contents}
use Rattle.lsl_region.proofs.Furnishing.{formed-furnished}
use Rattle.lsl_region.proofs.Gathering.{named-long}
use Rattle.lsl_region.proofs.Outlines.{map-set_same}
use Rattle.lsl_region.proofs.Seats.{placed-named, read-at}
use Rattle.lsl_region.proofs.grid.Grid.furnish.Goals as goal

pub invariant_of-self : goal.invariant_of-self
invariant_of-self c =
    let h : c.args.place < length c.self.inside.objects.items = search (rules, c.requires.place) in
    let o = c.index_mut-object.result.now in (
      placed-named c.self.inside.objects.items c.self.inside.seats.items c.args.place o _
          (read-at c.self.inside.objects.items c.args.place o h c.index_mut-object.ensures.value)
          (ap (λ (ps : List Primitive). length ps) c.rename_all.ensures ∙ named-long o.prims c.args.names)
          (formed-furnished o _ c.args.names c.rename_all.ensures c.requires.store) c.self.invariant.0,
      c.self.invariant.1,
    )

pub returns-clause-prims : goal.returns-clause-prims
returns-clause-prims c =
    let h : c.args.place < length c.self.inside.objects.items = search (rules, c.requires.place) in
    let o = c.index_mut-object.result.now in
    map-set_same (λ (x : Linkset). length x.prims) c.self.inside.objects.items c.args.place o _
    (read-at c.self.inside.objects.items c.args.place o h c.index_mut-object.ensures.value)
    (ap (λ (ps : List Primitive). length ps) c.rename_all.ensures ∙ named-long o.prims c.args.names)
    ∙ ap (λ (g : Contents). map (λ (x : Linkset). length x.prims) g.objects) c.self.view_is
