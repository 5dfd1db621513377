use Rattle.std.proofs.Common.{◌≡◌, ◌++◌, length, Ok}
use Rattle.lsl_lines.specs.Checks.{◌>>=◌}
use Rattle.lsl_lines.specs.Words.{words_of}
use Rattle.lsl_lines.proofs.words.read_words.Given as goal

abbrev pub invariant-words : goal.invariant-words
invariant-words l = (words_of l.rest >>= λ words. Ok (l.words.items ++ words)) ≡ words_of l.line

abbrev pub decreases-words : goal.decreases-words
decreases-words l = length l.rest
