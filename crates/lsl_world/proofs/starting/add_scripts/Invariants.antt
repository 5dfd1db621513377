use Rattle.std.proofs.Common.{◌≡◌, ◌++◌, drop}
use Rattle.lsl_region.specs.Grids.{AreSeated}
use Rattle.lsl_world.specs.Seats.{seats_of_prim}
use Rattle.lsl_world.proofs.starting.add_scripts.Given as goal

abbrev pub invariant-loop-line : goal.invariant-loop-line
invariant-loop-line l = record {
  objects : l.grid.objects ≡ l.fn.grid.objects;
  seats : l.grid.seats ++ seats_of_prim l.units l.object l.prim (drop l.line-index l.lines)
      ≡ l.fn.grid.seats ++ seats_of_prim l.units l.object l.prim l.lines;
  seated : AreSeated l.units l.grid.seats;
}
