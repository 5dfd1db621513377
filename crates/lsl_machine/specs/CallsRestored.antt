-- How the calls that are restored lie on the stack, and the effect of an instruction on them.
use Rattle.std.specs.Prelude.{◌≡◌, ℕ, ◌+◌, ◌<◌, Bool, List, [], ◌∷◌, ◌++◌, Option, Some, None, length, map, min, slice_get, vec_capacity}
use Rattle.lsl_value.specs.declared.tagged.Value.{Value}
use Rattle.lsl_running.specs.declared.kept.Kept.{Kept}
use Rattle.lsl_code.specs.declared.frames.Frame.{Frame}
use Rattle.lsl_code.specs.declared.instructions.Instr.{Instr}
use Rattle.lsl_code.specs.declared.instructions.Instr.TheVariants.{Branch}
use Rattle.lsl_code.specs.Bodies.{Body}
use Rattle.lsl_code.specs.Machine.{MachineCall, base}
use Rattle.lsl_code.specs.ModeRuns.{Beside, BackRun}
use Rattle.lsl_code.specs.Restoring.{Restoring, back_act, back_after}
use Rattle.lsl_machine.specs.declared.restoring.Restorer.{Restorer}
use Rattle.lsl_machine.specs.declared.running.Activation.{Activation}
use Rattle.lsl_machine.specs.declared.running.Running.{Running}
use Rattle.lsl_machine.specs.Laid.{Held, flat, activations, machine_of}
use Rattle.lsl_machine.specs.Rooms.{IsReserved}

-- a call as it is kept, with a saturated charge
abbrev pub capped : Activation → Activation
capped a = record a { charge = min a.charge 18446744073709551615 }

-- these calls, this point and these current values, and these frames are left; every call has its room
pub record IsRestoring (bodies : List Body) (r : Restorer) (c : MachineCall) (outer : List MachineCall) (point : ℕ)
    (hand : List Value) (sack : List Frame) : Type 0 where
  pub values : r.stack.items ≡ flat (c ∷ outer)
  pub waiting : r.callers.items ≡ map capped (activations outer)
  pub function : r.active.function ≡ c.function
  pub place : r.active.place ≡ c.place
  pub base_is : r.active.base ≡ length (flat outer)
  pub floor : r.active.floor ≡ length (flat outer ++ c.slots)
  pub charge : r.active.charge ≡ min (base outer) 18446744073709551615
  pub at_point : r.point ≡ point
  pub in_hand : r.pack.hand ≡ hand
  pub frames : r.pack.frames ≡ sack
  pub reserved : IsReserved bodies (vec_capacity r.stack) (c ∷ outer)

-- the effect of the instruction on them
abbrev pub next_of : List Body → Instr → MachineCall → List MachineCall → ℕ → List Value → List Frame
    → Option Restoring
next_of bodies i c outer point hand sack =
    back_after bodies (back_act (slice_get bodies c.function) (Some i) c point hand sack) outer point hand sack

abbrev pub HasCalls : List Body → Restorer → List MachineCall → ℕ → List Value → List Frame → Type 0
HasCalls bodies r [] point hand sack = ⊥
HasCalls bodies r (c ∷ outer) point hand sack = IsRestoring bodies r c outer point hand sack

abbrev pub IsState : List Body → Restorer → Restoring → Type 0
IsState bodies r s = HasCalls bodies r s.calls s.point s.hand s.sack

abbrev pub CameTo : List Body → Option Restoring → Bool → Restorer → Type 0
CameTo bodies None awake r = ⊥
CameTo bodies (Some s) awake r = (s.awake ≡ awake) × IsState bodies r s

-- the place after the instruction can be numbered, and the one to which it branches
abbrev pub HasPlace : Instr → Restorer → Type 0
HasPlace Branch r = r.active.place + 1 + r.point < 4294967296
HasPlace i r = r.active.place + 1 < 4294967296

-- the instruction restores
abbrev pub CanBack : List Body → Instr → Restorer → Type 0
CanBack bodies i r =
    (c : MachineCall) × (outer : List MachineCall) × (point : ℕ) × (hand : List Value) × (sack : List Frame)
    × (s : Restoring) × IsRestoring bodies r c outer point hand sack
    × (next_of bodies i c outer point hand sack ≡ Some s) × HasPlace i r

-- it did what it should
abbrev pub Backs : List Body → Instr → Restorer → Bool → Restorer → Type 0
Backs bodies i old awake new =
    (c : MachineCall) (outer : List MachineCall) (point : ℕ) (hand : List Value) (sack : List Frame)
    → IsRestoring bodies old c outer point hand sack
    → CameTo bodies (next_of bodies i c outer point hand sack) awake new

-- what is beside frames: no answer is left
abbrev pub beside : Kept → Beside
beside kept = record { kept = kept; answers = [] }

-- this is the machine that restoring these frames ends with, after n instructions
pub record IsRestored (bodies : List Body) (handler : ℕ) (frames : List Frame) (kept : Kept) (r : Running)
    (n : ℕ) : Type 0 where
  pub held : Held r
  pub ran : BackRun bodies handler frames (beside kept) (machine_of r) n
  pub reserved : IsReserved bodies (vec_capacity r.stack) (machine_of r).calls
