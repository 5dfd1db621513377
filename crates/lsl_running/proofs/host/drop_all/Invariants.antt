use Rattle.std.proofs.Common.{length}
use Rattle.lsl_running.proofs.host.drop_all.Given as goal

abbrev pub invariant-values : goal.invariant-values
invariant-values l = Unit {0}

abbrev pub decreases-values : goal.decreases-values
decreases-values l = length l.values.items
