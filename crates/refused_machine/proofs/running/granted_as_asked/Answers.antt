use Rattle.std.proofs.Common.{rules}
use Rattle.refused_machine.proofs.running.granted_as_asked.Goals as goal

pub returns : goal.returns
returns c = search rules
