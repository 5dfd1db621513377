use Rattle.lsl_weave.proofs.SavingTold.{saving_is_told}
use Rattle.lsl_weave.proofs.woven_laws.saving_is_told.Goals as goal

pub returns : goal.returns
returns c = saving_is_told
