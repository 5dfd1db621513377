use Rattle.lsl_weave.proofs.RestoringTold.{restoring_is_told}
use Rattle.lsl_weave.proofs.woven_laws.restoring_is_told.Goals as goal

pub returns : goal.returns
returns c = restoring_is_told
