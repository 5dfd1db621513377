-- The machine while it saves: the effect of the added instructions on the innermost call and the current frame.
use Rattle.std.specs.Prelude.{ℕ, ◌+◌, List, [], ◌∷◌, ◌++◌, Option, Some, None, slice_get}
use Rattle.lsl_value.specs.declared.tagged.Value.{Value}
use Rattle.lsl_code.specs.declared.frames.Frame.{Frame}
use Rattle.lsl_code.specs.declared.instructions.Instr.{Instr}
use Rattle.lsl_code.specs.declared.instructions.Instr.TheVariants.{Jump, TestSave, KeepSlot, KeepTop, Seal}
use Rattle.lsl_code.specs.Bodies.{Body, instruction_at}
use Rattle.lsl_code.specs.Machine.{MachineCall}
use Rattle.lsl_code.specs.Modes.{at_place}

-- the calls that are left, the innermost first, the values that the frame in hand has, and the frames saved
-- so far
pub record Saving : Type 0 where
  pub calls : List MachineCall
  pub hand : List Value
  pub sack : List Frame

abbrev pub saving : List MachineCall → List Value → List Frame → Saving
saving calls hand sack = record { calls = calls; hand = hand; sack = sack }

-- what one instruction does
pub data SaveAct : Type 0 where
  -- continues with this call, and these current values
  Keeps : MachineCall → List Value → SaveAct
  -- this frame is closed, and the call is left
  Seals : Frame → SaveAct
  -- no instruction, or one that doesn't save
  NoSave : SaveAct

abbrev pub keeps_slot : Option Value → (Value → SaveAct) → SaveAct
keeps_slot None go = NoSave
keeps_slot (Some v) go = go v

abbrev pub keeps_top : List Value → (Value → List Value → SaveAct) → SaveAct
keeps_top [] go = NoSave
keeps_top (v ∷ rest) go = go v rest

abbrev pub frame_of : ℕ → ℕ → List Value → Frame
frame_of f point values = record { function = f; point = point; slots = values }

-- of the innermost call and the current values
abbrev pub save_act : Option Instr → MachineCall → List Value → SaveAct
save_act (Some (TestSave to)) c hand = Keeps (at_place c to c.operands) hand
save_act (Some (Jump to)) c hand = Keeps (at_place c to c.operands) hand
save_act (Some (KeepSlot n)) c hand =
    keeps_slot (slice_get c.slots n) (λ v. Keeps (at_place c (c.place + 1) c.operands) (v ∷ hand))
save_act (Some KeepTop) c hand =
    keeps_top c.operands (λ v rest. Keeps (at_place c (c.place + 1) rest) (v ∷ hand))
save_act (Some (Seal point)) c hand = Seals (frame_of c.function point hand)
save_act i c hand = NoSave

-- put back between the outer calls
abbrev pub save_after : SaveAct → List MachineCall → List Frame → Option Saving
save_after (Keeps c hand) outer sack = Some (saving (c ∷ outer) hand sack)
save_after (Seals frame) outer sack = Some (saving outer [] (sack ++ frame ∷ []))
save_after NoSave outer sack = None

abbrev pub save_step_in : List Body → List MachineCall → List Value → List Frame → Option Saving
save_step_in bodies [] hand sack = None
save_step_in bodies (c ∷ outer) hand sack =
    save_after (save_act (instruction_at bodies c.function c.place) c hand) outer sack

-- one instruction; none where no call is left
abbrev pub save_step : List Body → Saving → Option Saving
save_step bodies s = save_step_in bodies s.calls s.hand s.sack

-- a machine at a tick continues after it, and saves
abbrev pub begins_saving : List MachineCall → Saving
begins_saving [] = saving [] [] []
begins_saving (c ∷ outer) = saving (at_place c (c.place + 1) c.operands ∷ outer) [] []
