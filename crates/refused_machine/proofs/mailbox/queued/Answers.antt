use Rattle.std.proofs.Common.{rules}
use Rattle.refused_machine.proofs.mailbox.queued.Goals as goal

pub returns : goal.returns
returns c = search rules
