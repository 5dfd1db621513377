-- Where a machine of plain code is in woven code.
use Rattle.std.specs.Prelude.{ℕ, ◌+◌, ◌-◌, ◌≡◌, List, [], ◌∷◌, Option, Some, None, map, slice_get}
use Rattle.lsl_code.specs.declared.instructions.Instr.TheVariants.{Call}
use Rattle.lsl_code.specs.Bodies.{Body}
use Rattle.lsl_code.specs.Machine.{MachineCall, Machine}
use Rattle.lsl_code.specs.Modes.{at_place}
use Rattle.lsl_code.specs.Standing.{point_instr}
use Rattle.lsl_code.specs.Runs.{Halt, Over, AskAt, CutAt}
use Rattle.lsl_weave.specs.Layout.{shift, place_of}

abbrev pub woven_place : Option Body → ℕ → ℕ
woven_place None k = k
woven_place (Some b) k = shift b k

-- the innermost call
abbrev pub lift_top : List Body → MachineCall → MachineCall
lift_top bodies c = at_place c (woven_place (slice_get bodies c.function) c.place) c.operands

-- a call that waits is directly after its call, at the test there
abbrev pub lift_waiting : List Body → MachineCall → MachineCall
lift_waiting bodies c = at_place c (woven_place (slice_get bodies c.function) (c.place - 1) + 1) c.operands

abbrev pub lift : List Body → List MachineCall → List MachineCall
lift bodies [] = []
lift bodies (c ∷ outer) = lift_top bodies c ∷ map (lift_waiting bodies) outer

-- the machine in woven code
abbrev pub lift_machine : List Body → Machine → Machine
lift_machine bodies m = record { kept = m.kept; calls = lift bodies m.calls; answers = m.answers }

-- and the result of a run of it
abbrev pub lift_halt : List Body → Halt → Halt
lift_halt bodies (Over e) = Over e
lift_halt bodies (AskAt id args m t) = AskAt id args (lift_machine bodies m) t
lift_halt bodies (CutAt m) = CutAt (lift_machine bodies m)

-- the call is directly after a call of a function
abbrev pub IsBehindCall : List Body → MachineCall → Type 0
IsBehindCall bodies c =
    (b : Body) × (k : ℕ) × (g : ℕ) × (p : ℕ) × (slice_get bodies c.function ≡ Some b) × (c.place ≡ k + 1)
    × (slice_get b.code k ≡ Some (Call g p))

abbrev pub AreBehindCalls : List Body → List MachineCall → Type 0
AreBehindCalls bodies [] = Unit {0}
AreBehindCalls bodies (c ∷ outer) = IsBehindCall bodies c × AreBehindCalls bodies outer

-- each call but the innermost does
abbrev pub OuterAreBehind : List Body → List MachineCall → Type 0
OuterAreBehind bodies [] = Unit {0}
OuterAreBehind bodies (c ∷ outer) = AreBehindCalls bodies outer

-- each point of the function is at one place only
abbrev pub IsOnePlaced : Body → Type 0
IsOnePlaced b =
    (k p : ℕ) (callee : Option ℕ) → slice_get b.code k ≡ Some (point_instr callee p) → place_of p b.code ≡ k

abbrev pub AreOnePlaced : List Body → Type 0
AreOnePlaced bodies = (f : ℕ) (b : Body) → slice_get bodies f ≡ Some b → IsOnePlaced b
