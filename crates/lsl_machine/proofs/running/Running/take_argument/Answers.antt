use Rattle.lsl_machine.proofs.CallRooms.{argument_taken}
use Rattle.lsl_machine.proofs.running.Running.take_argument.Goals as goal

pub returns-clause-taken : goal.returns-clause-taken
returns-clause-taken c g f place sl ops outer h =
    argument_taken g f place sl ops outer c.pop-argument.result c.pop-argument.new.self _
    (c.pop-argument.ensures.popped g f place sl ops outer h) c.in_ok-renew.ensures.args
