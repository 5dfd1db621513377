use Rattle.std.proofs.Common.{rules}
use Rattle.refused_machine.proofs.mailbox.cleared.Goals as goal

pub returns : goal.returns
returns c = search rules
