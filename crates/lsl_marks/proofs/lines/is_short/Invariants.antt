use Rattle.std.proofs.Common.{◌≡◌, ◌+◌, ◌<◌, length}
use Rattle.lsl_marks.specs.Lines.{told_length}
use Rattle.lsl_marks.proofs.lines.is_short.Given as goal

abbrev pub decreases-bytes : goal.decreases-bytes
decreases-bytes l = length l.rest

abbrev pub invariant-bytes : goal.invariant-bytes
invariant-bytes l = (l.count < 1021) × (l.count + told_length l.rest ≡ told_length l.fn.inner)
