use Rattle.std.proofs.Common.{rules}
use Rattle.refused_front.proofs.tables.home.Goals as goal

pub returns : goal.returns
returns c = search rules
