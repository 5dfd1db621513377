-- Saved calls as they are shown.
use Rattle.std.specs.Prelude.{ℕ, List, Option, Some, None, length, take, slice_get}
use Rattle.lsl_code.specs.declared.frames.Frame.{Frame}
use Rattle.lsl_code.specs.declared.woven_functions.WovenCode.{WovenCode}
use Rattle.lsl_code.specs.Naming.{HasPoint, function_name, line_of}
use Rattle.lsl_view.specs.Lines.{ShownCall}

abbrev pub slots_in : Option WovenCode → ℕ
slots_in None = 0
slots_in (Some function) = length function.slots

-- how many slots the function of this number has
abbrev pub slot_count : List WovenCode → ℕ → ℕ
slot_count functions number = slots_in (slice_get functions number)

-- of a frame's values the slots are shown, and not the operands that wait after them
abbrev pub shown_frame : List WovenCode → Frame → ShownCall
shown_frame functions frame = record {
  name = function_name functions frame.function;
  line = line_of functions frame.function frame.point;
  slots = take (slot_count functions frame.function) frame.slots;
}

-- the frame is at a point of one of these functions
abbrev pub IsAt : List WovenCode → Frame → Type 0
IsAt functions frame = HasPoint functions frame.function frame.point
