use Rattle.std.proofs.Common.{rules}
use Rattle.refused_machine.proofs.stores.room_left.Goals as goal

pub returns : goal.returns
returns c = search rules
