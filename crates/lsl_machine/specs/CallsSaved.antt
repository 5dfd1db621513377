-- How a call that is saved lies on the stack, and what saving it gives.
use Rattle.std.specs.Prelude.{◌≡◌, ℕ, ◌+◌, ◌<◌, List, [], ◌∷◌, ◌++◌, Option, Some, None, length, reverse, take, slice_set, sum_by}
use Rattle.lsl_value.specs.declared.tagged.Value.{Value}
use Rattle.lsl_running.specs.Charging.{charges_of, script_charge}
use Rattle.lsl_running.specs.Values.{absent}
use Rattle.lsl_code.specs.declared.frames.Frame.{Frame}
use Rattle.lsl_code.specs.declared.instructions.Instr.{Instr}
use Rattle.lsl_code.specs.declared.instructions.Instr.TheVariants.{KeepSlot}
use Rattle.lsl_code.specs.Bodies.{Body}
use Rattle.lsl_code.specs.Frames.{frame_charge}
use Rattle.lsl_code.specs.Machine.{MachineCall, base, call_at}
use Rattle.lsl_code.specs.Modes.{repeat}
use Rattle.lsl_code.specs.Packs.{packed}
use Rattle.lsl_code.specs.Saving.{SaveAct, Keeps, Seals, NoSave, saving, save_act, save_step, begins_saving}
use Rattle.lsl_weave.specs.WovenCalls.{IsAt}
use Rattle.lsl_machine.specs.declared.saving.Saver.{Saver}
use Rattle.lsl_machine.specs.Laid.{call_in}

-- above these values lie this call's slots and operands, and these values are kept
pub record HasCall (s : Saver) (low : List Value) (c : MachineCall) (hand : List Value) : Type 0 where
  pub stack : s.stack.items ≡ (low ++ c.slots) ++ reverse c.operands
  pub function : s.active.function ≡ c.function
  pub place : s.active.place ≡ c.place
  pub base : s.active.base ≡ length low
  pub floor : s.active.floor ≡ length (low ++ c.slots)
  pub in_hand : s.pack.hand ≡ hand

abbrev pub low_of : Saver → List Value
low_of s = take s.active.base s.stack.items

abbrev pub call_of : Saver → MachineCall
call_of s = call_in s.stack.items s.active (length s.stack.items)

abbrev pub IsSaveAct : SaveAct → Type 0
IsSaveAct (Keeps c hand) = Unit {0}
IsSaveAct (Seals frame) = Unit {0}
IsSaveAct NoSave = ⊥

-- the instruction saves the current call
abbrev pub CanKeep : Instr → Saver → Type 0
CanKeep i s =
    (low : List Value) × (c : MachineCall) × (hand : List Value) × HasCall s low c hand
    × IsSaveAct (save_act (Some i) c hand) × (s.active.place + 1 < 4294967296)

-- a slot that was kept is empty
abbrev pub vacated : Instr → MachineCall → MachineCall
vacated (KeepSlot n) c = call_at c.function c.place (slice_set c.slots n absent) c.operands
vacated i c = c

-- the instruction kept a value, or reached the end of the frame
abbrev pub DidKeep : Instr → List Value → MachineCall → List Value → SaveAct → Option ℕ → Saver → Type 0
DidKeep i low c hand (Keeps next more) None s = HasCall s low (vacated i next) more
DidKeep i low c hand (Seals frame) (Some point) s = (frame.point ≡ point) × HasCall s low c hand
DidKeep i low c hand act point s = ⊥

-- the call is after a point, with its values
abbrev pub IsBehindPoint : List Body → MachineCall → Type 0
IsBehindPoint bodies c =
    (k : ℕ) × (callee : Option ℕ) × (p : ℕ) × (c.place ≡ k + 1) × IsAt bodies c k callee p

abbrev pub CanSeal : List Body → Saver → Type 0
CanSeal bodies s = HasCall s (low_of s) (call_of s) [] × IsBehindPoint bodies (call_of s)

-- the call is saved as this frame, whatever calls wait for it, and is charged what the frame is
pub record IsFrameOf (bodies : List Body) (c : MachineCall) (frame : Frame) : Type 0 where
  pub ran : (n : ℕ)
      × ((outer : List MachineCall) (sack : List Frame)
      → repeat (save_step bodies) n (saving (c ∷ outer) [] sack) ≡ Some (saving outer [] (sack ++ frame ∷ [])))
  pub charge : charges_of frame.slots ≡ charges_of c.slots + charges_of c.operands

-- it is after the calls that were saved before it, and no value is kept
abbrev pub HasSealed : List Body → Saver → Saver → Type 0
HasSealed bodies old new =
    (frame : Frame) × (new.pack ≡ packed (old.pack.frames ++ frame ∷ []) []) × IsFrameOf bodies (call_of old) frame

-- saving these calls ends with these frames, and this is their charge
pub record AreSaved (bodies : List Body) (calls : List MachineCall) (frames : List Frame) : Type 0 where
  pub ran : (n : ℕ)
      × (repeat (save_step bodies) n (begins_saving calls) ≡ Some (saving [] [] frames))
  pub charge : base calls ≡ script_charge + sum_by frame_charge frames
