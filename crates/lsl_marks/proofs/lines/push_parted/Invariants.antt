use Rattle.std.proofs.Common.{◌≡◌, ◌++◌, length}
use Rattle.lsl_marks.specs.Lines.{parted}
use Rattle.lsl_marks.proofs.lines.push_parted.Given as goal

abbrev pub decreases-bytes : goal.decreases-bytes
decreases-bytes l = length l.rest

abbrev pub invariant-bytes : goal.invariant-bytes
invariant-bytes l = l.out.items ++ parted l.rest ≡ l.fn.out.items ++ parted l.fn.inner
