use Rattle.std.proofs.Common.{rules}
use Rattle.refused_machine.proofs.code.handler_in_state.Goals as goal

pub returns : goal.returns
returns c = search rules
