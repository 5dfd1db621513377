use Rattle.std.proofs.Common.{◌≡◌, length}
use Rattle.lsl_pure.specs.Cuts.{without_tail}
use Rattle.lsl_pure.proofs.cuts.before_blanks.Given as goal

abbrev pub invariant-blanks : goal.invariant-blanks
invariant-blanks l = without_tail l.rest ≡ without_tail l.text

abbrev pub decreases-blanks : goal.decreases-blanks
decreases-blanks l = length l.rest
