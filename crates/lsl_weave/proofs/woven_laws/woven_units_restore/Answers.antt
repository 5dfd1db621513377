use Rattle.lsl_weave.proofs.FramesBack.{woven_restores, restored_rest}
use Rattle.lsl_weave.proofs.woven_laws.woven_units_restore.Goals as goal

pub returns-clause-ends : goal.returns-clause-ends
returns-clause-ends c = woven_restores

pub returns-clause-valid : goal.returns-clause-valid
returns-clause-valid c = restored_rest
