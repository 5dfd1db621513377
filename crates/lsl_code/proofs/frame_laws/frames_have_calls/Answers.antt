use Rattle.lsl_code.proofs.Calling.{frames_have_calls}
use Rattle.lsl_code.proofs.frame_laws.frames_have_calls.Goals as goal

pub returns : goal.returns
returns c = record { calls = frames_have_calls }
