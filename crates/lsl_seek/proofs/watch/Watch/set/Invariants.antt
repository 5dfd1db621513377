use Rattle.std.proofs.Common.{◌≡◌, length}
use Rattle.lsl_seek.proofs.watch.Watch.set.Given as goal

abbrev pub invariant-sets : goal.invariant-sets
invariant-sets l = record {
  stop : l.self.stop ≡ l.fn.self.stop;
  taken : l.self.is_taken ≡ l.fn.self.is_taken;
  before : l.self.before ≡ l.fn.self.before;
}

abbrev pub decreases-sets : goal.decreases-sets
decreases-sets l = length l.rest
