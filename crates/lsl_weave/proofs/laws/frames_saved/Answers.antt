use Rattle.lsl_weave.proofs.Besides.{machine_saved}
use Rattle.lsl_weave.proofs.laws.frames_saved.Goals as goal

pub returns : goal.returns
returns c = machine_saved
