use Rattle.std.proofs.Common.{rules}
use Rattle.refused_machine.proofs.meaning.sum_after_assignment.Goals as goal

pub returns : goal.returns
returns c = search rules
