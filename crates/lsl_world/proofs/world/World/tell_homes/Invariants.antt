use Rattle.std.proofs.Common.{◌≡◌, ◌≤◌, length}
use Rattle.lsl_world.proofs.Telling.{Telling}
use Rattle.lsl_world.proofs.world.World.tell_homes.Given as goal

abbrev pub invariant-loop-place : goal.invariant-loop-place
invariant-loop-place l = record {
  end : l.place-end ≡ length l.self.grid.objects;
  few : l.place-end ≤ 64;
  told : Telling l.self.grid.objects l.fn.out l.out l.place;
}
