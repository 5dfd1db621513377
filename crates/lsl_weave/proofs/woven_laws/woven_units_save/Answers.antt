use Rattle.lsl_weave.proofs.Sealed.{woven_saves, saved_frames_fit}
use Rattle.lsl_weave.proofs.woven_laws.woven_units_save.Goals as goal

pub returns-clause-ends : goal.returns-clause-ends
returns-clause-ends c = woven_saves

pub returns-clause-valid : goal.returns-clause-valid
returns-clause-valid c = saved_frames_fit
