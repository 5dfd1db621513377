use Rattle.std.proofs.Common.{◌≡◌, ◌+◌, length}
use Rattle.lsl_lex.specs.Reading.{counted, quote_of}
use Rattle.lsl_lex.proofs.strings.body_length.Given as goal

abbrev pub invariant-parts : goal.invariant-parts
invariant-parts l = (counted l.n (quote_of l.rest) ≡ quote_of l.text) × (l.n + length l.rest ≡ length l.text)

abbrev pub decreases-parts : goal.decreases-parts
decreases-parts l = length l.rest
