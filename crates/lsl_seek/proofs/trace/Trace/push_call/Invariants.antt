use Rattle.std.proofs.Common.{length}
use Rattle.lsl_seek.proofs.trace.Trace.push_call.Given as goal

abbrev pub decreases-names : goal.decreases-names
decreases-names l = length l.names
