use Rattle.std.proofs.Common.{◌≡◌, ◌+◌, length}
use Rattle.std.specs.List.{prefix_len}
use Rattle.lsl_seek.specs.Bytes.{is_not}
use Rattle.lsl_seek.proofs.bytes.length_before.Given as goal

abbrev pub invariant-bytes : goal.invariant-bytes
invariant-bytes l = (l.n + prefix_len (is_not l.by) l.rest ≡ prefix_len (is_not l.by) l.text)
    × (l.n + length l.rest ≡ length l.text)

abbrev pub decreases-bytes : goal.decreases-bytes
decreases-bytes l = length l.rest
