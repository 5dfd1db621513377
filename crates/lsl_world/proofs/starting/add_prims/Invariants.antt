use Rattle.std.proofs.Common.{◌≡◌, ◌++◌, drop, length}
use Rattle.lsl_region.specs.Grids.{AreSeated}
use Rattle.lsl_world.specs.Seats.{seats_of_prims}
use Rattle.lsl_world.proofs.starting.add_prims.Given as goal

abbrev pub invariant-loop-prim : goal.invariant-loop-prim
invariant-loop-prim l = record {
  end : l.prim-end ≡ length l.lines;
  objects : l.grid.objects ≡ l.fn.grid.objects;
  seats : l.grid.seats ++ seats_of_prims l.units l.object l.prim (drop l.prim l.lines)
      ≡ l.fn.grid.seats ++ seats_of_prims l.units l.object 0 l.lines;
  seated : AreSeated l.units l.grid.seats;
}
