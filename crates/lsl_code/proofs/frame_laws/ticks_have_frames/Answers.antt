use Rattle.lsl_code.proofs.Chaining.{stays_chained}
use Rattle.lsl_code.proofs.Stood.{ticks_have_frames, frames_fit}
use Rattle.lsl_code.proofs.frame_laws.ticks_have_frames.Goals as goal

pub returns-clause-chained : goal.returns-clause-chained
returns-clause-chained c = stays_chained

pub returns-clause-frames : goal.returns-clause-frames
returns-clause-frames c = ticks_have_frames

pub returns-clause-fit : goal.returns-clause-fit
returns-clause-fit c = frames_fit
