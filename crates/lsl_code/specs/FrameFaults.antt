-- What is wrong with frames.
use Rattle.std.specs.Prelude.{ℕ, ◌<◌, List}
use Rattle.lsl_value.specs.declared.tagged.Value.{Value}
use Rattle.lsl_code.specs.declared.checking.FrameFault.{FrameFault}
use Rattle.lsl_code.specs.declared.checking.FrameFault.TheVariants as fault
use Rattle.lsl_code.specs.declared.frames.Frame.{Frame}
use Rattle.lsl_code.specs.Frames.{Points, AreFrames, IsFirstUnfit, parked_charge}

-- this is wrong with the frames of a handler, beside these globals, with this limit. A frame comes before
-- the charge
abbrev pub IsFrameFault : Points → ℕ → List Value → ℕ → List Frame → FrameFault → Type 0
IsFrameFault points handler globals limit frames (fault.Frame n) = IsFirstUnfit points handler frames n
IsFrameFault points handler globals limit frames fault.Charge =
    AreFrames points handler frames × (limit < parked_charge globals frames)
