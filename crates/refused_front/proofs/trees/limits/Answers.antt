use Rattle.std.proofs.Common.{rules}
use Rattle.refused_front.proofs.trees.limits.Goals as goal

pub returns : goal.returns
returns c = search rules
