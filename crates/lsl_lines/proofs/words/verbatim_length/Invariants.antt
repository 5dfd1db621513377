use Rattle.std.proofs.Common.{◌≡◌, ◌+◌, length}
use Rattle.std.specs.List.{prefix_len}
use Rattle.lsl_lines.specs.Reads.{is_verbatim}
use Rattle.lsl_lines.proofs.words.verbatim_length.Given as goal

abbrev pub invariant-bytes : goal.invariant-bytes
invariant-bytes l = (l.n + prefix_len is_verbatim l.rest ≡ prefix_len is_verbatim l.line)
    × (l.n + length l.rest ≡ length l.line)

abbrev pub decreases-bytes : goal.decreases-bytes
decreases-bytes l = length l.rest
