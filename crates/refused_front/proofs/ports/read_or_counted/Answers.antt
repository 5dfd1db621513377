use Rattle.std.proofs.Common.{rules}
use Rattle.refused_front.proofs.ports.read_or_counted.Goals as goal

pub returns : goal.returns
returns c = search rules
