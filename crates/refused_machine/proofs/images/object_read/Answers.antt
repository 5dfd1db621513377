use Rattle.std.proofs.Common.{rules}
use Rattle.refused_machine.proofs.images.object_read.Goals as goal

pub returns : goal.returns
returns c = search rules
