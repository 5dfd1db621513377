use Rattle.std.proofs.Common.{◌≡◌, ◌+◌, length}
use Rattle.std.specs.List.{prefix_len}
use Rattle.lsl_lex.specs.Bytes.{is_name_byte}
use Rattle.lsl_lex.proofs.bytes.name_length.Given as goal

abbrev pub invariant-bytes : goal.invariant-bytes
invariant-bytes l = (l.n + prefix_len is_name_byte l.rest ≡ prefix_len is_name_byte l.text)
    × (l.n + length l.rest ≡ length l.text)

abbrev pub decreases-bytes : goal.decreases-bytes
decreases-bytes l = length l.rest
