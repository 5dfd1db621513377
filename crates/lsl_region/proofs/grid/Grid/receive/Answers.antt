use Rattle.std.proofs.Common.{◌<◌, ◌-◌, List, ℕ, length, subst, arith}
use Rattle.std.specs.Prelude.{MatchResult}
use Rattle.lsl_image.specs.declared.parts.Shape.{Shape}
use Rattle.lsl_image.specs.Images.{ObjectFirst, ObjectImage}
use Rattle.lsl_region.specs.Grids.{ArePlaced, Contents}
use Rattle.lsl_region.specs.ObjectParts.{object_in_grid}
use Rattle.lsl_region.proofs.Shapes.{can-arrive, formed-at, key-valid}
use Rattle.lsl_region.proofs.grid.Grid.receive.Goals as goal

pub arrive-requires-clause-parts : goal.arrive-requires-clause-parts
arrive-requires-clause-parts c =
    let codes = c.args.site.now.library.now in
    let grid = c.args.self.now in
    let place = c.args.site.now.place in
    let h : place < length grid.objects = c.requires.place in
    let formed = formed-at grid.objects grid.seats place
    (subst (λ (g : Contents). ArePlaced g.objects g.seats) c.self.view_is c.self.invariant.0) h in
    let read : ObjectImage c.region_at-region.result.now c.args.shape.now codes c.in-Ok.parts c.args.back.now =
    subst (λ (r : _). MatchResult r
    (λ parts. ObjectImage c.region_at-region.result.now c.args.shape.now codes parts c.args.back.now)
    (λ fault. ObjectFirst c.region_at-region.result.now c.args.shape.now codes c.args.back.now fault)) c.in-Ok.is
    c.in_ok-parts.ensures in
    can-arrive codes grid place c.in-Ok.parts c.args.back.now (key-valid (object_in_grid grid place) formed)
    (subst (λ (s : Shape). ObjectImage (object_in_grid grid place).region s codes c.in-Ok.parts c.args.back.now)
    c.requires.shape
    (subst (λ (r : List ℕ). ObjectImage r c.args.shape.now codes c.in-Ok.parts c.args.back.now)
    c.region_at-region.ensures read))
