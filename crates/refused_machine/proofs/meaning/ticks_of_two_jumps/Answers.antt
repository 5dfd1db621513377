use Rattle.std.proofs.Common.{rules}
use Rattle.refused_machine.proofs.meaning.ticks_of_two_jumps.Goals as goal

pub returns : goal.returns
returns c = search rules
