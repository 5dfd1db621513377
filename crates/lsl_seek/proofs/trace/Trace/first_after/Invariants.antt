use Rattle.std.proofs.Common.{◌≡◌, false}
use Rattle.lsl_seek.specs.Aims.{asks_values}
use Rattle.lsl_seek.specs.Finding.{NoneUpTo}
use Rattle.lsl_seek.specs.Moments.{moments, up_to}
use Rattle.lsl_seek.specs.Watches.{Watches}
use Rattle.lsl_seek.proofs.trace.Trace.first_after.Given as goal

abbrev pub invariant-moments : goal.invariant-moments
invariant-moments l = record {
  places : l.place-items ≡ l.self.places.items;
  watch : Watches l.aim l.watch (up_to (moments l.self) l.i);
  none : asks_values l.aim ≡ false → NoneUpTo l.self l.aim l.from l.i;
}
