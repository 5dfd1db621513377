use Rattle.std.proofs.Common.{◌≡◌, ◌++◌, drop, length, map}
use Rattle.lsl_region.specs.Grids.{AreSeated}
use Rattle.lsl_world.specs.Seats.{seats_of_objects}
use Rattle.lsl_world.specs.Starts.{object_of_line}
use Rattle.lsl_world.proofs.starting.add_objects.Given as goal

abbrev pub invariant-loop-line : goal.invariant-loop-line
invariant-loop-line l = record {
  count : length l.grid.objects ≡ l.line-index;
  objects : l.grid.objects ++ map object_of_line (drop l.line-index l.lines) ≡ map object_of_line l.lines;
  seats : l.grid.seats ++ seats_of_objects l.units l.line-index (drop l.line-index l.lines)
      ≡ seats_of_objects l.units 0 l.lines;
  seated : AreSeated l.units l.grid.seats;
}
