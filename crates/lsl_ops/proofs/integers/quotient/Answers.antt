use Rattle.std.proofs.Common.{◌∙◌, rules}
use Rattle.std.specs.Int.{w32}
use Rattle.std.proofs.lemmas.Int.{to_z-of_z}
use Rattle.lsl_ops.proofs.IntegerLemmas.{quotient-wrapped}
use Rattle.lsl_ops.proofs.integers.quotient.Goals as goal

pub returns : goal.returns
returns c =
    to_z-of_z w32 c.wrapping_div.result (search rules)
    ∙ quotient-wrapped c.args.left c.args.right c.wrapping_div.result c.ranges.left c.ranges.right
    c.wrapping_div.ensures
