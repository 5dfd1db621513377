use Rattle.std.proofs.Common.{rules}
use Rattle.refused_front.proofs.values.divided.Goals as goal

pub returns : goal.returns
returns c = search rules
