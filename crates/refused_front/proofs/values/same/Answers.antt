use Rattle.std.proofs.Common.{rules}
use Rattle.refused_front.proofs.values.same.Goals as goal

pub returns : goal.returns
returns c = search rules
