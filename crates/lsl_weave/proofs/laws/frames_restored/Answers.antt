use Rattle.lsl_weave.proofs.Besides.{machine_restored}
use Rattle.lsl_weave.proofs.laws.frames_restored.Goals as goal

pub returns : goal.returns
returns c = λ bodies one handler m frames h. machine_restored bodies handler m frames one h
