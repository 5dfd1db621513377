use Rattle.std.proofs.Common.{◌≡◌, ◌-◌, false, take}
use Rattle.lsl_seek.specs.Aims.{asks_values}
use Rattle.lsl_seek.specs.Finding.{LastUpTo}
use Rattle.lsl_seek.specs.Moments.{moments, up_to}
use Rattle.lsl_seek.specs.Watches.{Watches}
use Rattle.lsl_seek.proofs.trace.Trace.last_before.Given as goal

abbrev pub invariant-moments : goal.invariant-moments
invariant-moments l = record {
  places : l.place-items ≡ take (l.from - 1) l.self.places.items;
  watch : Watches l.aim l.watch (up_to (moments l.self) l.i);
  last : asks_values l.aim ≡ false → LastUpTo l.self l.aim l.i l.found;
}
