use Rattle.std.proofs.Common.{◌+◌, ◌≤◌, length}
use Rattle.lsl_seek.proofs.trace.Trace.read.Given as goal

abbrev pub invariant-lines : goal.invariant-lines
invariant-lines l = (l.number + length l.rest ≤ length l.text + 1) × (length l.rest ≤ length l.text)

abbrev pub decreases-lines : goal.decreases-lines
decreases-lines l = length l.rest
