use Rattle.std.proofs.Common.{◌∙◌, arith, rules}
use Rattle.std.proofs.lemmas.Result.{IfOk-weaker}
use Rattle.lsl_value.proofs.TextLemmas.{decimal-ascii, decimal-short, decimal-encodes_short}
use Rattle.lsl_value.proofs.characters.Text.decimal.Goals as goal

pub from_ascii-requires-clause-ascii : goal.from_ascii-requires-clause-ascii
from_ascii-requires-clause-ascii c = decimal-ascii c.args.n _ c.ranges.n (search rules)

pub from_ascii-requires-clause-short : goal.from_ascii-requires-clause-short
from_ascii-requires-clause-short c =
    let short = decimal-short c.args.n c.push_decimal.new.out.items c.ranges.n (search rules) in omega arith

pub returns-clause-short : goal.returns-clause-short
returns-clause-short c =
    IfOk-weaker c.from_ascii.result _ _ (λ text same.
    decimal-encodes_short c.args.n text c.ranges.n (same ∙ search rules)) c.from_ascii.ensures
