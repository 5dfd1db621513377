use Rattle.std.proofs.Common.{◌≡◌, ◌+◌, length}
use Rattle.std.specs.List.{prefix_len}
use Rattle.lsl_lines.specs.Reads.{is_in_word}
use Rattle.lsl_lines.proofs.words.word_length.Given as goal

abbrev pub invariant-bytes : goal.invariant-bytes
invariant-bytes l = (l.n + prefix_len is_in_word l.rest ≡ prefix_len is_in_word l.line)
    × (l.n + length l.rest ≡ length l.line)

abbrev pub decreases-bytes : goal.decreases-bytes
decreases-bytes l = length l.rest
