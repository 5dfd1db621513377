use Rattle.std.proofs.Common.{◌≡◌, ◌∙◌, ◌+◌, ◌-◌, ℕ, List, [], ◌∷◌, ◌++◌, ap, arith, sym}
use Rattle.std.specs.Prelude.{map}
use Rattle.std.specs.List.{range_with_len}
use Rattle.std.proofs.lemmas.List.{map-append}
use Rattle.std.proofs.lemmas.List.FromFn.{map-range_with_len_more}
use Rattle.lsl_image.specs.declared.parts.Shape.{Shape}
use Rattle.lsl_image.specs.Valid.{placed_shape, shape_of}
use Rattle.lsl_region.specs.GridParts.{placed_at}
use Rattle.lsl_region.specs.ObjectParts.{parts_of_object}
use Rattle.lsl_region.proofs.grid.Grid.shapes.Goals as goal

pub loop-place-preserved : goal.loop-place-preserved
loop-place-preserved c =
    let grid = c.args.self.now in
    let n = c.loop-place.place in
    let before = map (placed_at grid) (range_with_len 0 n) in
    let back : n + 1 - 1 ≡ n = omega arith in
    let one = c.in_ok-shape.ensures in (
      c.loop-place.invariant.0,
      c.in_ok-push.ensures.ok
          ∙ ap (λ (z : List Shape). z ++ c.in_ok-shape.field-0 ∷ []) c.loop-place.invariant.1
          ∙ ap (λ (z : Shape). map placed_shape before ++ z ∷ [])
          (one ∙ ap (λ (k : ℕ). shape_of (parts_of_object grid k)) back)
          ∙ sym (map-append placed_shape before (placed_at grid n ∷ []))
          ∙ ap (map placed_shape) (sym (map-range_with_len_more (placed_at grid) 0 n n (omega arith))),
    )
