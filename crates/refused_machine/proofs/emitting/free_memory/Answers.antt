use Rattle.std.proofs.Common.{rules}
use Rattle.refused_machine.proofs.emitting.free_memory.Goals as goal

pub returns : goal.returns
returns c = search rules
