use Rattle.std.proofs.Common.{rules}
use Rattle.refused_front.proofs.tables.call_named.Goals as goal

pub returns : goal.returns
returns c = search rules
