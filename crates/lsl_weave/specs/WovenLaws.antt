-- What the test of woven units says: saving and restoring never get stuck, whatever the code's order.
use Rattle.std.specs.Prelude.{ℕ, ◌*◌, ◌≡◌, ◌≤◌, List, length, true}
use Rattle.lsl_value.specs.declared.tagged.Value.{Value}
use Rattle.lsl_code.specs.declared.frames.Frame.{Frame}
use Rattle.lsl_code.specs.declared.functions.StateCode.{StateCode}
use Rattle.lsl_code.specs.Bodies.{Body}
use Rattle.lsl_code.specs.Fits.{all_places}
use Rattle.lsl_code.specs.Frames.{AreFrames, frames_of, points_of}
use Rattle.lsl_code.specs.Kinded.{AreKindedCalls, IsKindedMachine}
use Rattle.lsl_code.specs.Kinds.{kinds_of}
use Rattle.lsl_code.specs.Machine.{MachineCall, Machine}
use Rattle.lsl_code.specs.ModeRuns.{Beside, beside_of, SaveRun, BackRun}
use Rattle.lsl_code.specs.Standing.{HasFrames, IsAtTick, IsChain}
use Rattle.lsl_code.specs.Units.{fits_unit, is_short}
use Rattle.lsl_code.specs.WellFormed.{IsWellFormedUnit}
use Rattle.lsl_weave.specs.Layout.{all_woven}
use Rattle.lsl_code.specs.Woven.{is_woven}
use Rattle.lsl_weave.specs.WovenCalls.{RestAtTick}

-- a machine that rests at a tick is saved, and keeps its globals, limit and answers
abbrev pub WovenSaves : Type 0
WovenSaves =
    (globals : List Value) (states : List StateCode) (bodies : List Body)
    → is_woven globals states bodies ≡ true
    → (handler : ℕ) (m : Machine) → RestAtTick bodies handler m.calls
    → (frames : List Frame) × SaveRun bodies m frames (beside_of m)

-- all frames that saving it ends with fit
abbrev pub SavedFramesFit : Type 0
SavedFramesFit =
    (globals : List Value) (states : List StateCode) (bodies : List Body)
    → is_woven globals states bodies ≡ true
    → (handler : ℕ) (m : Machine) → RestAtTick bodies handler m.calls
    → (frames : List Frame) (x : Beside) → SaveRun bodies m frames x
    → AreFrames (points_of bodies) handler frames

-- frames that fit are restored, beside whatever globals, limit and answers, within 2^32 instructions a frame
abbrev pub WovenRestores : Type 0
WovenRestores =
    (globals : List Value) (states : List StateCode) (bodies : List Body)
    → is_woven globals states bodies ≡ true
    → (handler : ℕ) (frames : List Frame) (x : Beside) → AreFrames (points_of bodies) handler frames
    → (m : Machine) × (n : ℕ) × (n ≤ 4294967296 * length frames) × BackRun bodies handler frames x m n

-- all machines that restoring them ends with rest at a tick, with values of the kinds of their points
abbrev pub RestoredRest : Type 0
RestoredRest =
    (globals : List Value) (states : List StateCode) (bodies : List Body)
    → is_woven globals states bodies ≡ true
    → (handler : ℕ) (frames : List Frame) (x : Beside) → AreFrames (points_of bodies) handler frames
    → (m : Machine) (n : ℕ) → BackRun bodies handler frames x m n → RestAtTick bodies handler m.calls

-- a machine at a tick, in which all kinds are right, rests there
abbrev pub KindedMachinesRest : Type 0
KindedMachinesRest =
    (globals : List Value) (states : List StateCode) (bodies : List Body)
    → is_woven globals states bodies ≡ true
    → (handler : ℕ) (m : Machine) → IsKindedMachine (kinds_of globals) bodies m
    → IsChain bodies handler m.calls
    → IsAtTick bodies m.calls → RestAtTick bodies handler m.calls

-- and in calls that rest all kinds are right
abbrev pub RestingCallsAreKinded : Type 0
RestingCallsAreKinded =
    (globals : List Value) (states : List StateCode) (bodies : List Body)
    → is_woven globals states bodies ≡ true
    → (handler : ℕ) (calls : List MachineCall) → RestAtTick bodies handler calls
    → AreKindedCalls bodies calls × IsChain bodies handler calls × IsAtTick bodies calls

-- the woven code of a well-formed unit passes the test, where its places can be numbered
abbrev pub WeavingMakesWoven : Type 0
WeavingMakesWoven =
    (globals : List Value) (states : List StateCode) (bodies : List Body)
    → fits_unit globals states bodies ≡ true
    → all_places (λ f w. is_short w) 0 (all_woven bodies) ≡ true
    → is_woven globals states (all_woven bodies) ≡ true

-- at most one list of calls has these frames
abbrev pub FramesHaveOneMachine : Type 0
FramesHaveOneMachine =
    (globals : List Value) (states : List StateCode) (bodies : List Body)
    → IsWellFormedUnit globals states bodies
    → (handler : ℕ) (calls others : List MachineCall) (frames : List Frame)
    → HasFrames bodies handler calls frames → HasFrames bodies handler others frames → calls ≡ others

-- and the frames of calls are these
abbrev pub FramesAreTold : Type 0
FramesAreTold =
    (bodies : List Body) (handler : ℕ) (calls : List MachineCall) (frames : List Frame)
    → HasFrames bodies handler calls frames → frames ≡ frames_of bodies calls
