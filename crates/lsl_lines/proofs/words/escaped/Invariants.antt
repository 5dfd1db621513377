use Rattle.std.proofs.Common.{◌≡◌, ◌≤◌, [], length}
use Rattle.lsl_lines.specs.Words.{quoted_words}
use Rattle.lsl_lines.proofs.words.escaped.Given as goal

abbrev pub invariant-bytes : goal.invariant-bytes
invariant-bytes l = (quoted_words l.front.items l.rest ≡ quoted_words [] l.line) × (length l.rest ≤ length l.line)

abbrev pub decreases-bytes : goal.decreases-bytes
decreases-bytes l = length l.rest
