-- Machines of a unit at a tick have valid frames, and valid frames are those of such a machine.
use Rattle.std.specs.Prelude.{ℕ, List}
use Rattle.lsl_value.specs.declared.tagged.Value.{Value}
use Rattle.lsl_code.specs.declared.frames.Frame.{Frame}
use Rattle.lsl_code.specs.declared.functions.StateCode.{StateCode}
use Rattle.lsl_code.specs.Bodies.{Body}
use Rattle.lsl_code.specs.Frames.{AreFrames, frames_of, points_of}
use Rattle.lsl_code.specs.Kinded.{AreKindedCalls, IsKindedMachine}
use Rattle.lsl_code.specs.Kinds.{kinds_of}
use Rattle.lsl_code.specs.Machine.{MachineCall, Machine, step}
use Rattle.lsl_code.specs.WellFormed.{IsWellFormedUnit}
use Rattle.lsl_code.specs.Standing.{HasFrames, IsAtTick, IsChain, IsChainedNext}

-- a step leaves calls that wait for one another
abbrev pub StaysChained : Type 0
StaysChained =
    (bodies : List Body) (handler : ℕ) (m : Machine) → IsChain bodies handler m.calls
    → IsChainedNext bodies handler (step bodies m)

-- a machine of a well-formed unit at a tick is where its frames say
abbrev pub TicksHaveFrames : Type 0
TicksHaveFrames =
    (globals : List Value) (states : List StateCode) (bodies : List Body)
    → IsWellFormedUnit globals states bodies
    → (handler : ℕ) (m : Machine) → IsKindedMachine (kinds_of globals) bodies m
    → IsChain bodies handler m.calls
    → IsAtTick bodies m.calls → HasFrames bodies handler m.calls (frames_of bodies m.calls)

-- such frames fit
abbrev pub FramesFit : Type 0
FramesFit =
    (bodies : List Body) (handler : ℕ) (calls : List MachineCall) (frames : List Frame)
    → HasFrames bodies handler calls frames → AreFrames (points_of bodies) handler frames

-- and frames that fit are those of calls in which all kinds are right
abbrev pub FramesHaveCalls : Type 0
FramesHaveCalls =
    (globals : List Value) (states : List StateCode) (bodies : List Body)
    → IsWellFormedUnit globals states bodies
    → (handler : ℕ) (frames : List Frame) → AreFrames (points_of bodies) handler frames
    → (calls : List MachineCall) × HasFrames bodies handler calls frames × AreKindedCalls bodies calls
    × IsChain bodies handler calls × IsAtTick bodies calls
