use Rattle.std.proofs.Common.{rules}
use Rattle.refused_front.proofs.tables.result_kind.Goals as goal

pub returns : goal.returns
returns c = search rules
