use Rattle.std.proofs.Common.{◌≡◌, ◌≤◌, length}
use Rattle.lsl_lines.proofs.Digits.{digits_behind}
use Rattle.lsl_lines.proofs.fields.digits.Given as goal

abbrev pub invariant-digits : goal.invariant-digits
invariant-digits l = (l.n ≤ 4294967296000) × (digits_behind l.n l.rest ≡ digits_behind 0 l.bytes)

abbrev pub decreases-digits : goal.decreases-digits
decreases-digits l = length l.rest
