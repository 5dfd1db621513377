use Rattle.std.proofs.Common.{rules}
use Rattle.refused_machine.proofs.machines.finished.Goals as goal

pub returns : goal.returns
returns c = search rules
