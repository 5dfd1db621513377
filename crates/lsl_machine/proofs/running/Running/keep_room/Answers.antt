use Rattle.lsl_machine.proofs.CallRooms.{spared_laid}
use Rattle.lsl_machine.proofs.running.Running.keep_room.Goals as goal

pub returns-clause-laid : goal.returns-clause-laid
returns-clause-laid c s h = spared_laid c.args.self.now _ s h
