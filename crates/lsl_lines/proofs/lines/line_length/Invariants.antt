use Rattle.std.proofs.Common.{◌≡◌, ◌+◌, length}
use Rattle.std.specs.List.{prefix_len}
use Rattle.lsl_lines.specs.Reads.{is_in_line}
use Rattle.lsl_lines.proofs.lines.line_length.Given as goal

abbrev pub invariant-bytes : goal.invariant-bytes
invariant-bytes l = (l.n + prefix_len is_in_line l.rest ≡ prefix_len is_in_line l.text)
    × (l.n + length l.rest ≡ length l.text)

abbrev pub decreases-bytes : goal.decreases-bytes
decreases-bytes l = length l.rest
