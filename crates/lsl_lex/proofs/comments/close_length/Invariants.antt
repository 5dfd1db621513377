use Rattle.std.proofs.Common.{◌≡◌, ◌+◌, length}
use Rattle.lsl_lex.specs.Reading.{counted, close_of}
use Rattle.lsl_lex.proofs.comments.close_length.Given as goal

abbrev pub invariant-bytes : goal.invariant-bytes
invariant-bytes l = (counted l.n (close_of l.rest) ≡ close_of l.text) × (l.n + length l.rest ≡ length l.text)

abbrev pub decreases-bytes : goal.decreases-bytes
decreases-bytes l = length l.rest
