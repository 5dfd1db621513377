use Rattle.std.proofs.Common.{◌≡◌, ◌∙◌, ℕ, List, ◌++◌, ap, arith, drop, length, subst, sym}
use Rattle.std.specs.Prelude.{map, slice_set}
use Rattle.std.specs.List.{AllByRecursion}
use Rattle.lsl_image.specs.declared.parts.Placed.{Placed}
use Rattle.lsl_image.specs.Valid.{IsPlaced, placed_shape, shape_of}
use Rattle.lsl_region.specs.GridParts.{placed_in}
use Rattle.lsl_region.specs.Grids.{ArePlaced, Contents}
use Rattle.lsl_region.specs.ObjectParts.{parts_of_object}
use Rattle.lsl_region.proofs.Thawed.{fixed-within, placed-within, thawed-stands}
use Rattle.lsl_region.proofs.ThawLoop.{all-last, shape-here, shapes-count, shapes-next, whole-last, whole-next}
use Rattle.lsl_region.proofs.grid.Grid.thaw.Goals as goal

pub prove_eq-unreachable-requires : goal.prove_eq-unreachable-requires
prove_eq-unreachable-requires c =
    let there : length c.self.inside.objects.items ≡ length c.args.self.now.objects =
    ap (λ (g : Contents). length g.objects) c.self.view_is in
    let same : c.len.result ≡ c.len-count.result = omega (
      arith,
      c.len.ensures,
      c.len-count.ensures,
      there,
      c.self.inside.objects.ok.0,
      shapes-count c.args.self.now c.args.objects c.requires.shapes,
    ) in
    c.if-prove_eq.true same

pub thaw_object-requires-clause-parts : goal.thaw_object-requires-clause-parts
thaw_object-requires-clause-parts c =
    let codes = c.args.library.now in
    let grid = c.loop-placed.self in
    let before = c.loop-placed.invariant in
    let others = c.pop.new.self.items in
    let x = c.in-Some.placed in
    let popped = c.in-Some.ensures.items in
    let behind : c.len-in-Some.result ≡ length others = omega (arith, c.len-in-Some.ensures, c.pop.new.self.ok.0) in
    record {
      valid = (all-last (IsPlaced codes) others x
          (subst (λ (z : List Placed). AllByRecursion (IsPlaced codes) z) popped before.valid)).1;
      shape = shape-here c.loop-placed.objects.items others c.args.objects x grid popped before.whole before.shapes
          ∙ ap (λ (k : ℕ). shape_of (parts_of_object grid k)) (sym behind);
    }

pub loop-placed-preserved : goal.loop-placed-preserved
loop-placed-preserved c =
    let codes = c.args.library.now in
    let grid = c.loop-placed.self in
    let before = c.loop-placed.invariant in
    let others = c.pop.new.self.items in
    let x = c.in-Some.placed in
    let popped = c.in-Some.ensures.items in
    let behind : c.len-in-Some.result ≡ length others = omega (arith, c.len-in-Some.ensures, c.pop.new.self.ok.0) in
    let now : placed_in c.thaw_object.new.self ≡ slice_set (placed_in grid) (length others) x =
    c.in_ok-thaw_object.ensures.parts ∙ ap (λ (k : ℕ). slice_set (placed_in grid) k x) behind in
    record {
      seated = c.in_ok-thaw_object.ensures.seated;
      home = c.in_ok-thaw_object.ensures.home;
      valid = (all-last (IsPlaced codes) others x
          (subst (λ (z : List Placed). AllByRecursion (IsPlaced codes) z) popped before.valid)).0;
      shapes = ap (map placed_shape) now
          ∙ shapes-next c.loop-placed.objects.items others c.args.objects x grid popped before.whole before.shapes;
      fixed = c.in_ok-thaw_object.ensures.fixed ∙ before.fixed;
      whole = ap (λ (z : List Placed). others ++ drop (length others) z) now
          ∙ whole-next c.loop-placed.objects.items others c.args.objects x grid popped before.whole before.shapes;
    }

pub returns-clause-stands : goal.returns-clause-stands
returns-clause-stands c = λ w scripts fixed parts.
    let before = c.loop-placed.invariant in
    let last : placed_in c.loop-placed.self ≡ c.args.objects =
    whole-last c.loop-placed.objects.items (placed_in c.loop-placed.self) c.args.objects
    (λ h. c.in_default.ensures.variant.1 (omega (arith, h, c.loop-placed.objects.ok.0))) before.whole in
    let there = subst (λ (g : Contents). ArePlaced g.objects g.seats) c.self.view_is c.self.invariant.0 in
    thawed-stands c.args.library.now c.loop-placed.self w scripts (fixed ∙ sym before.fixed) (parts ∙ sym last)
    before.home
    (fixed-within c.loop-placed.self c.args.self.now before.fixed (placed-within c.args.self.now there))
