use Rattle.std.proofs.Common.{rules}
use Rattle.refused_machine.proofs.machines.restored.Goals as goal

pub returns : goal.returns
returns c = search rules
