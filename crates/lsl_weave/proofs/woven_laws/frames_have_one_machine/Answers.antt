use Rattle.lsl_weave.proofs.OneMachine.{frames_are_told, frames_have_one_machine}
use Rattle.lsl_weave.proofs.woven_laws.frames_have_one_machine.Goals as goal

pub returns-clause-calls : goal.returns-clause-calls
returns-clause-calls c = frames_have_one_machine

pub returns-clause-frames : goal.returns-clause-frames
returns-clause-frames c = frames_are_told
