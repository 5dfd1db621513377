use Rattle.std.proofs.Common.{◌∙◌, rules}
use Rattle.std.specs.Int.{w32}
use Rattle.std.proofs.lemmas.Int.{to_z-of_z}
use Rattle.lsl_ops.proofs.IntegerLemmas.{shift-wrapped}
use Rattle.lsl_ops.proofs.integers.shifted_left.Goals as goal

pub returns : goal.returns
returns c =
    to_z-of_z w32 c.wrapping_shl.result (search rules)
    ∙ shift-wrapped c.args.n c.args.by c.wrapping_shl.result c.cast_unsigned.result c.ranges.n c.ranges.by
    c.cast_unsigned.ensures c.wrapping_shl.ensures
