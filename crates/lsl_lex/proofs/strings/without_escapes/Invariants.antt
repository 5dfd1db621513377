use Rattle.std.proofs.Common.{◌≡◌, ◌++◌, length}
use Rattle.lsl_lex.specs.Strings.{escapes_read}
use Rattle.lsl_lex.proofs.strings.without_escapes.Given as goal

abbrev pub invariant-bytes : goal.invariant-bytes
invariant-bytes l = l.out.items ++ escapes_read l.rest ≡ escapes_read l.body

abbrev pub decreases-bytes : goal.decreases-bytes
decreases-bytes l = length l.rest
