use Rattle.std.proofs.Common.{◌≡◌, ◌++◌, length, Ok}
use Rattle.lsl_lines.specs.Checks.{◌>>=◌}
use Rattle.lsl_lines.specs.Forms.{each_gap}
use Rattle.lsl_lines.proofs.steps.parse_gaps.Given as goal

abbrev pub invariant-gaps : goal.invariant-gaps
invariant-gaps l = (each_gap l.rest >>= λ gaps. Ok (l.gaps ++ gaps)) ≡ each_gap l.words

abbrev pub decreases-gaps : goal.decreases-gaps
decreases-gaps l = length l.rest
