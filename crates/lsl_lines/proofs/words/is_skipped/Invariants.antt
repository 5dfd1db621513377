use Rattle.std.proofs.Common.{◌≡◌, length}
use Rattle.lsl_lines.specs.Words.{is_skipped}
use Rattle.lsl_lines.proofs.words.is_skipped.Given as goal

abbrev pub invariant-blanks : goal.invariant-blanks
invariant-blanks l = is_skipped l.rest ≡ is_skipped l.line

abbrev pub decreases-blanks : goal.decreases-blanks
decreases-blanks l = length l.rest
