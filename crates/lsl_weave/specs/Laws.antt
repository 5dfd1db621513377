-- What woven code does, in terms of machines of plain code and of their places in woven code.
use Rattle.std.specs.Prelude.{ℕ, ◌+◌, ◌≡◌, ◌≤◌, List}
use Rattle.lsl_code.specs.declared.frames.Frame.{Frame}
use Rattle.lsl_code.specs.Bodies.{Body}
use Rattle.lsl_code.specs.Forward.{Forward}
use Rattle.lsl_code.specs.Frames.{parked_charge}
use Rattle.lsl_code.specs.Machine.{Machine, used_in}
use Rattle.lsl_code.specs.ModeRuns.{beside_of, SaveRun, BackRun}
use Rattle.lsl_code.specs.Runs.{CutAt, run}
use Rattle.lsl_weave.specs.Layout.{all_woven}
use Rattle.lsl_code.specs.Standing.{HasFrames}
use Rattle.lsl_weave.specs.Lifting.{lift_machine, lift_halt, OuterAreBehind, AreOnePlaced}
use Rattle.lsl_code.specs.Weaves.{most_steps}

-- saving a machine at a tick ends with its frames, and with the same globals, limit and answers
abbrev pub SavesItsFrames : Type 0
SavesItsFrames =
    (bodies : List Body) (handler : ℕ) (m : Machine) (frames : List Frame)
    → HasFrames bodies handler m.calls frames
    → SaveRun (all_woven bodies) (lift_machine bodies m) frames (beside_of m)

-- restoring these frames beside the same ends with that machine, within 16 instructions, 8 a frame and 4 a
-- value
abbrev pub RestoresTheMachine : Type 0
RestoresTheMachine =
    (bodies : List Body) → AreOnePlaced bodies
    → (handler : ℕ) (m : Machine) (frames : List Frame) → HasFrames bodies handler m.calls frames
    → (n : ℕ) × (n ≤ most_steps frames)
    × BackRun (all_woven bodies) handler frames (beside_of m) (lift_machine bodies m) n

-- a run of woven code has the result of the run of the plain code: the same host call, end or fault, or the same
-- machine if it is cut, with the same ticks left
abbrev pub RunsAlike : Type 0
RunsAlike =
    (bodies : List Body) → Forward bodies → (ticks : ℕ) (m : Machine) → OuterAreBehind bodies m.calls
    → run (all_woven bodies) ticks (lift_machine bodies m) ≡ lift_halt bodies (run bodies ticks m)

-- the charge is the same
abbrev pub ChargesAlike : Type 0
ChargesAlike =
    (bodies : List Body) (m : Machine) → used_in (lift_machine bodies m).calls m.kept ≡ used_in m.calls m.kept

-- and that of its frames
abbrev pub FramesAreCharged : Type 0
FramesAreCharged =
    (bodies : List Body) (handler : ℕ) (m : Machine) (frames : List Frame)
    → HasFrames bodies handler m.calls frames
    → used_in m.calls m.kept ≡ parked_charge m.kept.globals frames

-- a machine that is cut, saved and restored continues as if nothing had been
abbrev pub GoesOn : Type 0
GoesOn =
    (bodies : List Body) → Forward bodies → (handler ticks more : ℕ) (m at : Machine) (frames : List Frame)
    → OuterAreBehind bodies m.calls → run bodies ticks m ≡ CutAt at → HasFrames bodies handler at.calls frames
    → run (all_woven bodies) more (lift_machine bodies at) ≡ lift_halt bodies (run bodies (ticks + more) m)
