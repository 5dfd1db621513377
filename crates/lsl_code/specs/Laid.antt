-- A saved call as it lies in a sack.
use Rattle.lsl_code.specs.declared.frames.Frame.{Frame}
use Rattle.lsl_code.specs.declared.sacks.Laid.{Laid}
use Rattle.lsl_code.specs.Saving.{frame_of}

-- the frame that lies there
abbrev pub frame_laid : Laid → Frame
frame_laid laid = frame_of laid.function laid.point laid.values.now
