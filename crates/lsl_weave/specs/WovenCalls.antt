-- Calls that rest at points of a woven unit.
use Rattle.std.specs.Prelude.{ℕ, ◌+◌, ◌≡◌, List, [], ◌∷◌, Option, Some, None, slice_get}
use Rattle.lsl_code.specs.declared.functions.Point.{Point}
use Rattle.lsl_code.specs.Bodies.{Body}
use Rattle.lsl_code.specs.Kinds.{kinds_of}
use Rattle.lsl_code.specs.Machine.{MachineCall}
use Rattle.lsl_code.specs.Standing.{point_instr}
use Rattle.lsl_code.specs.SaveWays.{waiting_kinds}

-- the call has the kinds of this point, and the point's tick, or call of this function, is at place k
pub record IsAt (bodies : List Body) (c : MachineCall) (k : ℕ) (callee : Option ℕ) (p : ℕ) : Type 0 where
  pub body : Body
  pub found : slice_get bodies c.function ≡ Some body
  pub here : slice_get body.code k ≡ Some (point_instr callee p)
  pub point : Point
  pub mapped : slice_get body.points p ≡ Some point
  pub calls : point.calls ≡ callee
  pub slots : kinds_of c.slots ≡ body.slots
  pub operands : kinds_of c.operands ≡ waiting_kinds body.slots point

-- each call is directly after its call of the function before it, and the last is the handler's
abbrev pub WaitAtCalls : List Body → ℕ → List MachineCall → ℕ → Type 0
WaitAtCalls bodies handler [] g = g ≡ handler
WaitAtCalls bodies handler (c ∷ outer) g =
    (k : ℕ) × (p : ℕ) × (c.place ≡ k + 1) × IsAt bodies c k (Some g) p
    × WaitAtCalls bodies handler outer c.function

-- and the first is at a tick
abbrev pub RestAtTick : List Body → ℕ → List MachineCall → Type 0
RestAtTick bodies handler [] = ⊥
RestAtTick bodies handler (c ∷ outer) =
    (p : ℕ) × IsAt bodies c c.place None p × WaitAtCalls bodies handler outer c.function
