-- The kinds that the functions of a woven unit declare are those of its machines while they save and restore.
use Rattle.std.specs.Prelude.{ℕ, ◌≡◌, List, [], ◌∷◌, Option, Some, true, false, map, reverse, slice_get}
use Rattle.lsl_value.specs.declared.tagged.Kind.{Kind}
use Rattle.lsl_value.specs.declared.tagged.Value.{Value}
use Rattle.lsl_code.specs.declared.frames.Frame.{Frame}
use Rattle.lsl_code.specs.declared.functions.StateCode.{StateCode}
use Rattle.lsl_code.specs.declared.woven_functions.WovenCode.{WovenCode}
use Rattle.lsl_code.specs.Bodies.{Body}
use Rattle.lsl_code.specs.Fits.{all_places}
use Rattle.lsl_code.specs.Frames.{points_of, AreFrames}
use Rattle.lsl_code.specs.Kinds.{kinds_of}
use Rattle.lsl_code.specs.Machine.{MachineCall, Machine}
use Rattle.lsl_code.specs.ModeStacks.{saving_of, restoring_of, tells_modes}
use Rattle.lsl_code.specs.Modes.{repeat}
use Rattle.lsl_code.specs.Restoring.{Restoring, back_step, begins_restoring}
use Rattle.lsl_code.specs.Saving.{Saving, save_step, begins_saving}
use Rattle.lsl_code.specs.Woven.{is_woven}
use Rattle.lsl_code.specs.WovenBodies.{woven_body}
use Rattle.lsl_weave.specs.WovenCalls.{RestAtTick}

-- the operands of the innermost call have the kinds that its function declares there
abbrev pub AreAsTold : (WovenCode → List (Option (List Kind))) → List WovenCode → List MachineCall → Type 0
AreAsTold told functions [] = Unit {0}
AreAsTold told functions (c ∷ outer) =
    (w : WovenCode) × (slice_get functions c.function ≡ Some w)
    × (slice_get (told w) c.place ≡ Some (Some (reverse (kinds_of c.operands))))

-- this holds at each step of saving a machine that rests at a tick
abbrev pub SavingIsTold : Type 0
SavingIsTold =
    (globals : List Value) (states : List StateCode) (functions : List WovenCode)
    → is_woven globals states (map woven_body functions) ≡ true → all_places tells_modes 0 functions ≡ true
    → (handler : ℕ) (m : Machine) → RestAtTick (map woven_body functions) handler m.calls
    → (n : ℕ) (s : Saving) → repeat (save_step (map woven_body functions)) n (begins_saving m.calls) ≡ Some s
    → AreAsTold saving_of functions s.calls

-- and at each step of restoring frames that fit, up to its end
abbrev pub RestoringIsTold : Type 0
RestoringIsTold =
    (globals : List Value) (states : List StateCode) (functions : List WovenCode)
    → is_woven globals states (map woven_body functions) ≡ true → all_places tells_modes 0 functions ≡ true
    → (handler : ℕ) (frames : List Frame) → AreFrames (points_of (map woven_body functions)) handler frames
    → (body : Body) → slice_get (map woven_body functions) handler ≡ Some body
    → (n : ℕ) (s : Restoring)
    → repeat (back_step (map woven_body functions)) n (begins_restoring handler body frames) ≡ Some s
    → s.awake ≡ false → AreAsTold restoring_of functions s.calls
