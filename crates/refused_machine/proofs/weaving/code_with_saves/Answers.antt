use Rattle.std.proofs.Common.{rules}
use Rattle.refused_machine.proofs.weaving.code_with_saves.Goals as goal

pub returns : goal.returns
returns c = search rules
