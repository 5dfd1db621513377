use Rattle.std.proofs.Common.{◌≡◌, ◌∙◌, ◌+◌, ◌-◌, ℕ, List, [], ◌∷◌, ◌++◌, ap, arith, length, subst, sym}
use Rattle.std.specs.Prelude.{map}
use Rattle.std.specs.List.{AllByRecursion, range_with_len}
use Rattle.std.proofs.lemmas.List.FromFn.{map-range_with_len_more}
use Rattle.lsl_image.specs.declared.parts.Placed.{Placed}
use Rattle.lsl_image.specs.Valid.{IsPlaced}
use Rattle.lsl_region.specs.GridParts.{placed_at, placed_in}
use Rattle.lsl_region.specs.Grids.{ArePlaced, Contents}
use Rattle.lsl_region.proofs.Shapes.{object-written}
use Rattle.lsl_region.proofs.Thawing.{all-range}
use Rattle.lsl_region.proofs.ThawLoop.{placed-count}
use Rattle.lsl_region.proofs.grid.Grid.all_parts.Goals as goal

pub loop-place-preserved : goal.loop-place-preserved
loop-place-preserved c =
    let grid = c.args.self.now in
    let n = c.loop-place.place in
    let back : n + 1 - 1 ≡ n = omega arith in
    let one = c.in_ok-placed.ensures in (
      c.loop-place.invariant.0,
      c.in_ok-push.ensures.ok
          ∙ ap (λ (z : List Placed). z ++ c.in_ok-placed.field-0 ∷ []) c.loop-place.invariant.1
          ∙ ap (λ (z : Placed). map (placed_at grid) (range_with_len 0 n) ++ z ∷ []) (one ∙ ap (placed_at grid) back)
          ∙ sym (map-range_with_len_more (placed_at grid) 0 n n (omega arith)),
    )

pub returns-clause-written : goal.returns-clause-written
returns-clause-written c = λ codes seated.
    let grid = c.args.self.now in
    let there = subst (λ (g : Contents). ArePlaced g.objects g.seats) c.self.view_is c.self.invariant.0 in
    let n = c.loop-place.place in
    let last : n ≡ length grid.objects = omega (arith, c.loop-place.invariant.0) in
    let all : c.loop-place.objects ≡ placed_in grid =
    c.loop-place.invariant.1 ∙ ap (λ (k : ℕ). map (placed_at grid) (range_with_len 0 k)) last in
    subst (λ (z : List Placed). AllByRecursion (IsPlaced codes) z) (sym all)
    (all-range (IsPlaced codes) (placed_at grid) 0 (length grid.objects)
    (λ k low high. object-written codes grid k there (omega (arith, high)) seated))

pub returns-clause-few : goal.returns-clause-few
returns-clause-few c =
    let grid = c.args.self.now in
    let there = subst (λ (g : Contents). ArePlaced g.objects g.seats) c.self.view_is c.self.invariant.0 in
    let n = c.loop-place.place in
    let last : n ≡ length grid.objects = omega (arith, c.loop-place.invariant.0) in
    let all : c.loop-place.objects ≡ placed_in grid =
    c.loop-place.invariant.1 ∙ ap (λ (k : ℕ). map (placed_at grid) (range_with_len 0 k)) last in
    let few = there.few_objects in
    omega (arith, few, ap (λ (z : List Placed). length z) all, placed-count grid)
