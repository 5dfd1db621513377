use Rattle.std.proofs.Common.{◌≡◌, length}
use Rattle.lsl_pure.specs.Csv.{without_leading_spaces}
use Rattle.lsl_pure.proofs.csv.behind_spaces.Given as goal

abbrev pub invariant-spaces : goal.invariant-spaces
invariant-spaces l = without_leading_spaces l.rest ≡ without_leading_spaces l.text

abbrev pub decreases-spaces : goal.decreases-spaces
decreases-spaces l = length l.rest
