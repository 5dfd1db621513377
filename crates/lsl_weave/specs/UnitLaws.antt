-- The woven code of a well-formed unit saves and restores its machines, whatever they are at a tick.
use Rattle.std.specs.Prelude.{ℕ, ◌≡◌, ◌≤◌, List, true}
use Rattle.lsl_value.specs.declared.tagged.Value.{Value}
use Rattle.lsl_running.specs.declared.host.Reply.{Reply}
use Rattle.lsl_running.specs.declared.kept.Kept.{Kept}
use Rattle.lsl_code.specs.declared.frames.Frame.{Frame}
use Rattle.lsl_code.specs.declared.functions.StateCode.{StateCode}
use Rattle.lsl_code.specs.Bodies.{Body}
use Rattle.lsl_code.specs.Fits.{all_places}
use Rattle.lsl_code.specs.Forward.{Forward}
use Rattle.lsl_code.specs.Frames.{AreFrames, frames_of, points_of}
use Rattle.lsl_code.specs.Kinded.{AreKindedCalls, IsKindedMachine}
use Rattle.lsl_code.specs.Kinds.{kinds_of}
use Rattle.lsl_code.specs.Laws.{hosts_of}
use Rattle.lsl_code.specs.Machine.{Machine}
use Rattle.lsl_code.specs.ModeRuns.{Beside, beside_of, SaveRun, BackRun}
use Rattle.lsl_code.specs.Runs.{run}
use Rattle.lsl_code.specs.Standing.{HasFrames, IsAtTick, IsChain}
use Rattle.lsl_code.specs.Units.{fits_unit, is_short}
use Rattle.lsl_weave.specs.Layout.{all_woven}
use Rattle.lsl_weave.specs.Lifting.{lift_machine, lift_halt}
use Rattle.lsl_code.specs.Weaves.{most_steps, DoesWeave}
use Rattle.lsl_code.specs.Wholes.{whole_of_bodies}

-- a machine at a tick, in which all kinds are right, is saved as its frames
abbrev pub UnitsSave : Type 0
UnitsSave =
    (globals : List Value) (states : List StateCode) (bodies : List Body)
    → fits_unit globals states bodies ≡ true
    → (handler : ℕ) (m : Machine) → IsKindedMachine (kinds_of globals) bodies m
    → IsChain bodies handler m.calls
    → IsAtTick bodies m.calls
    → SaveRun (all_woven bodies) (lift_machine bodies m) (frames_of bodies m.calls) (beside_of m)

-- frames that fit, wherever they come from, are restored to a machine that has them, in which all kinds are
-- right
abbrev pub UnitsRestore : Type 0
UnitsRestore =
    (globals : List Value) (states : List StateCode) (bodies : List Body)
    → fits_unit globals states bodies ≡ true
    → (handler : ℕ) (frames : List Frame) (x : Beside) → AreFrames (points_of bodies) handler frames
    → (m : Machine) × (beside_of m ≡ x) × HasFrames bodies handler m.calls frames
    × AreKindedCalls bodies m.calls
    × IsChain bodies handler m.calls × IsAtTick bodies m.calls
    × ((n : ℕ) × (n ≤ most_steps frames)
    × BackRun (all_woven bodies) handler frames x (lift_machine bodies m) n)

-- what is saved is restored to the same machine
abbrev pub UnitsMove : Type 0
UnitsMove =
    (globals : List Value) (states : List StateCode) (bodies : List Body)
    → fits_unit globals states bodies ≡ true
    → (handler : ℕ) (m : Machine) → IsKindedMachine (kinds_of globals) bodies m
    → IsChain bodies handler m.calls
    → IsAtTick bodies m.calls
    → (n : ℕ) × (n ≤ most_steps (frames_of bodies m.calls))
    × BackRun (all_woven bodies) handler (frames_of bodies m.calls) (beside_of m) (lift_machine bodies m) n

-- a run of its woven code has the result of the run of the plain code
abbrev pub UnitsRunAlike : Type 0
UnitsRunAlike =
    (globals : List Value) (states : List StateCode) (bodies : List Body)
    → fits_unit globals states bodies ≡ true
    → (handler ticks : ℕ) (m : Machine) → IsChain bodies handler m.calls
    → run (all_woven bodies) ticks (lift_machine bodies m) ≡ lift_halt bodies (run bodies ticks m)

-- it goes back only after ticks, so its runs are steps too, and more ticks and further answers change nothing in them
abbrev pub UnitsGoForward : Type 0
UnitsGoForward =
    (globals : List Value) (states : List StateCode) (bodies : List Body)
    → fits_unit globals states bodies ≡ true
    → Forward (all_woven bodies)

-- where its places can be numbered, it weaves
abbrev pub UnitsWeave : Type 0
UnitsWeave =
    (globals : List Value) (states : List StateCode) (bodies : List Body)
    → fits_unit globals states bodies ≡ true
    → all_places (λ f w. is_short w) 0 (all_woven bodies) ≡ true
    → DoesWeave (all_woven bodies)

-- a handler of it, from its start, has the result that it has in the plain code, with the same active calls at the same
-- lines if it is cut
abbrev pub ComesToSame : List Body → List Body → Type 0
ComesToSame woven plain =
    (f : ℕ) (kept : Kept) (args : List Value) (ticks : ℕ) (answers : List Reply)
    → whole_of_bodies woven f kept args ticks answers ≡ whole_of_bodies plain f kept args ticks answers

abbrev pub UnitsComeToSame : Type 0
UnitsComeToSame =
    (globals : List Value) (states : List StateCode) (bodies : List Body)
    → fits_unit globals states bodies ≡ true → ComesToSame (all_woven bodies) bodies

-- it has as many instructions that ask
abbrev pub AsksAlike : Type 0
AsksAlike = (bodies : List Body) → hosts_of (all_woven bodies) ≡ hosts_of bodies
