use Rattle.std.proofs.Common.{◌≡◌, length}
use Rattle.std.specs.Prelude.{map}
use Rattle.std.specs.List.{range_with_len}
use Rattle.lsl_image.specs.Valid.{placed_shape}
use Rattle.lsl_region.specs.GridParts.{placed_at}
use Rattle.lsl_region.proofs.grid.Grid.shapes.Given as goal

abbrev pub invariant-loop-place : goal.invariant-loop-place
invariant-loop-place l =
    (l.place-end ≡ length l.self.objects)
    × (l.shapes ≡ map placed_shape (map (placed_at l.self) (range_with_len 0 l.place)))
