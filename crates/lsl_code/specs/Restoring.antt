-- The machine while it restores: the effect of the added instructions on the innermost call, the current frame and the
-- frames that are left.
use Rattle.std.specs.Prelude.{ℕ, ◌+◌, List, [], ◌∷◌, Option, Some, None, Bool, true, false, map, slice_get, slice_set, option_map}
use Rattle.lsl_value.specs.declared.tagged.Value.{Value}
use Rattle.lsl_running.specs.Values.{empty_of}
use Rattle.lsl_code.specs.declared.frames.Frame.{Frame}
use Rattle.lsl_code.specs.declared.instructions.Instr.{Instr}
use Rattle.lsl_code.specs.declared.instructions.Instr.TheVariants.{Jump, TestBack, Unpack, BackSlot, BackTop, Branch, Again, Awake}
use Rattle.lsl_code.specs.Bodies.{Body, instruction_in, instruction_at}
use Rattle.lsl_code.specs.Machine.{MachineCall, call_at}
use Rattle.lsl_code.specs.Modes.{at_place, landing}

-- the calls so far, the innermost first, the point and the values of the current frame, the frames that are left, and
-- whether restoring has ended
pub record Restoring : Type 0 where
  pub calls : List MachineCall
  pub point : ℕ
  pub hand : List Value
  pub sack : List Frame
  pub awake : Bool

abbrev pub restoring : List MachineCall → ℕ → List Value → List Frame → Restoring
restoring calls point hand sack =
    record { calls = calls; point = point; hand = hand; sack = sack; awake = false }

-- restoring has ended with these calls
abbrev pub awake_with : List MachineCall → ℕ → List Value → List Frame → Restoring
awake_with calls point hand sack =
    record { calls = calls; point = point; hand = hand; sack = sack; awake = true }

-- a call that is entered to be restored
abbrev pub blank : ℕ → Body → MachineCall
blank f body = call_at f 0 (map empty_of body.slots) []

-- what one instruction does
pub data BackAct : Type 0 where
  -- continues with this call, this current frame, and these frames left
  Moves : (call : MachineCall) (point : ℕ) (hand : List Value) (sack : List Frame) → BackAct
  -- this function is entered, and the call waits for it
  Reenters : (callee : ℕ) (caller : MachineCall) → BackAct
  -- restoring ends
  Wakes : MachineCall → BackAct
  -- no instruction, or one that doesn't restore
  NoBack : BackAct

-- the outermost frame, which is the last, becomes current
abbrev pub unpacked : List Frame → (List Frame → Frame → BackAct) → BackAct
unpacked [] go = NoBack
unpacked (frame ∷ []) go = go [] frame
unpacked (frame ∷ next ∷ more) go = unpacked (next ∷ more) (λ left last. go (frame ∷ left) last)

abbrev pub takes : List Value → (Value → List Value → BackAct) → BackAct
takes [] go = NoBack
takes (v ∷ rest) go = go v rest

abbrev pub with_slot : MachineCall → ℕ → Value → MachineCall
with_slot c n v = call_at c.function (c.place + 1) (slice_set c.slots n v) c.operands

abbrev pub where_slot : Option Value → BackAct → BackAct
where_slot None act = NoBack
where_slot (Some v) act = act

-- a jump directly after `Again` or `Awake` belongs to it: a restored call waits directly after its call, and a restored
-- machine is at its tick
abbrev pub lands : Option Body → MachineCall → MachineCall
lands body c = at_place c (landing (instruction_in body (c.place + 1)) (c.place + 1)) c.operands

-- of the innermost call, whose function has this body, the current frame and the frames that are left
abbrev pub back_act : Option Body → Option Instr → MachineCall → ℕ → List Value → List Frame → BackAct
back_act body (Some (TestBack to)) c point hand sack = Moves (at_place c to c.operands) point hand sack
back_act body (Some (Jump to)) c point hand sack = Moves (at_place c to c.operands) point hand sack
back_act body (Some Unpack) c point hand sack =
    unpacked sack (λ left last. Moves (at_place c (c.place + 1) c.operands) last.point last.slots left)
back_act body (Some Branch) c point hand sack =
    Moves (at_place c (c.place + 1 + point) c.operands) point hand sack
back_act body (Some (BackSlot n)) c point hand sack =
    takes hand (λ v rest. where_slot (slice_get c.slots n) (Moves (with_slot c n v) point rest sack))
back_act body (Some BackTop) c point hand sack =
    takes hand (λ v rest. Moves (at_place c (c.place + 1) (v ∷ c.operands)) point rest sack)
back_act body (Some (Again f)) c point hand sack = Reenters f (lands body c)
back_act body (Some Awake) c point hand sack = Wakes (lands body c)
back_act body i c point hand sack = NoBack

-- put back before the outer calls
abbrev pub back_after : List Body → BackAct → List MachineCall → ℕ → List Value → List Frame
    → Option Restoring
back_after bodies (Moves c point' hand' sack') outer point hand sack =
    Some (restoring (c ∷ outer) point' hand' sack')
back_after bodies (Reenters f c) outer point hand sack =
    option_map (λ callee. restoring (blank f callee ∷ c ∷ outer) point hand sack) (slice_get bodies f)
back_after bodies (Wakes c) outer point hand sack = Some (awake_with (c ∷ outer) point hand sack)
back_after bodies NoBack outer point hand sack = None

abbrev pub back_step_in : List Body → List MachineCall → ℕ → List Value → List Frame → Option Restoring
back_step_in bodies [] point hand sack = None
back_step_in bodies (c ∷ outer) point hand sack =
    back_after bodies
    (back_act (slice_get bodies c.function)
    (instruction_at bodies c.function c.place) c point hand sack) outer point
    hand sack

abbrev pub unless_awake : Bool → Option Restoring → Option Restoring
unless_awake true next = None
unless_awake false next = next

-- one instruction; none where restoring has ended
abbrev pub back_step : List Body → Restoring → Option Restoring
back_step bodies s = unless_awake s.awake (back_step_in bodies s.calls s.point s.hand s.sack)

-- the handler is entered, and restores
abbrev pub begins_restoring : ℕ → Body → List Frame → Restoring
begins_restoring handler body sack = restoring (blank handler body ∷ []) 0 [] sack
