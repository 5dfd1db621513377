use Rattle.std.proofs.Common.{rules}
use Rattle.refused_machine.proofs.meaning.charge_and_one.Goals as goal

pub returns : goal.returns
returns c = search rules
