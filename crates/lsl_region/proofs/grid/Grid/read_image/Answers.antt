use Rattle.std.proofs.Common.{◌<◌, ◌-◌, length, subst, sym, arith}
use Rattle.std.specs.Prelude.{MatchResult}
use Rattle.lsl_image.specs.declared.parts.Shape.{Shape}
use Rattle.lsl_image.specs.Images.{ObjectFirst, ObjectImage}
use Rattle.lsl_image.specs.Object.{object}
use Rattle.lsl_image.proofs.ImageLemmas.{image-no_fault}
use Rattle.lsl_region.specs.Grids.{ArePlaced, Contents}
use Rattle.lsl_region.specs.ObjectParts.{object_in_grid}
use Rattle.lsl_region.proofs.Shapes.{can-come, formed-at, key-valid}
use Rattle.lsl_region.proofs.grid.Grid.read_image.Goals as goal

pub returns-in-Ok : goal.returns-in-Ok
returns-in-Ok c =
    let codes = c.args.library.now in
    let grid = c.args.self.now in
    let place = c.args.object - 1 in
    let h : place < length grid.objects = omega (arith, c.requires.first, c.requires.last) in
    let formed = formed-at grid.objects grid.seats place
    (subst (λ (g : Contents). ArePlaced g.objects g.seats) c.self.view_is c.self.invariant.0) h in
    let read : ObjectImage c.args.region.now c.in_ok-shape.shape codes c.in-Ok.parts c.args.bytes.now =
    subst (λ (r : _). MatchResult r
    (λ parts. ObjectImage c.args.region.now c.in_ok-shape.shape codes parts c.args.bytes.now)
    (λ fault. ObjectFirst c.args.region.now c.in_ok-shape.shape codes c.args.bytes.now fault)) c.in-Ok.is
    c.in_ok-parts.ensures in
    let image = subst (λ (s : Shape). ObjectImage c.args.region.now s codes c.in-Ok.parts c.args.bytes.now)
    c.in_ok-shape.ensures read in (
      image,
      can-come codes grid place c.args.region.now c.in-Ok.parts c.args.bytes.now
          (key-valid (object_in_grid grid place) formed) image,
    )

pub returns : goal.returns
returns c = λ parts image.
    let codes = c.args.library.now in
    let first : ObjectFirst c.args.region.now c.in_ok-shape.shape codes c.args.bytes.now c.in-Err.field-0 =
    subst (λ (r : _). MatchResult r
    (λ parts. ObjectImage c.args.region.now c.in_ok-shape.shape codes parts c.args.bytes.now)
    (λ fault. ObjectFirst c.args.region.now c.in_ok-shape.shape codes c.args.bytes.now fault)) c.in-Err.is
    c.in_ok-parts.ensures in
    image-no_fault (object c.args.region.now c.in_ok-shape.shape codes) c.args.bytes.now parts c.in-Err.field-0
    (subst (λ (s : Shape). ObjectImage c.args.region.now s codes parts c.args.bytes.now) (sym c.in_ok-shape.ensures)
    image)
    first
