use Rattle.std.proofs.Common.{ap}
use Rattle.lsl_machine.specs.State.{State}
use Rattle.lsl_script.proofs.live.Live.keep_room.Goals as goal

pub returns : goal.returns
returns c = ap (λ (m : State). record c.args.self.now { machine = m }) c.keep_room.ensures
