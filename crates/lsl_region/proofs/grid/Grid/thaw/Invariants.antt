use Rattle.std.proofs.Common.{◌≡◌, ◌++◌, drop, length}
use Rattle.std.specs.Prelude.{map}
use Rattle.std.specs.List.{AllByRecursion}
use Rattle.lsl_image.specs.Valid.{IsPlaced, placed_shape}
use Rattle.lsl_region.specs.GridParts.{AreHome, fixed_of, placed_in}
use Rattle.lsl_region.specs.Grids.{AreSeated}
use Rattle.lsl_region.proofs.grid.Grid.thaw.Given as goal

abbrev pub invariant-loop-placed : goal.invariant-loop-placed
invariant-loop-placed l =
    record {
      seated : AreSeated l.library l.self.seats;
      home : AreHome l.self.seats;
      valid : AllByRecursion (IsPlaced l.library) l.objects.items;
      shapes : map placed_shape (placed_in l.self) ≡ map placed_shape l.fn.objects;
      fixed : fixed_of l.self ≡ fixed_of l.fn.self;
      whole : l.objects.items ++ drop (length l.objects.items) (placed_in l.self) ≡ l.fn.objects;
    }

abbrev pub decreases-loop-placed : goal.decreases-loop-placed
decreases-loop-placed l = length l.objects.items
