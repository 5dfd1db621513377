-- Machines at a tick: where their calls are, and which frames they have.
use Rattle.std.specs.Prelude.{ℕ, ◌+◌, ◌≡◌, List, [], ◌∷◌, ◌++◌, Option, Some, None, length, reverse, slice_get}
use Rattle.lsl_code.specs.declared.frames.Frame.{Frame}
use Rattle.lsl_code.specs.declared.functions.Point.{Point}
use Rattle.lsl_code.specs.declared.instructions.Instr.{Instr}
use Rattle.lsl_code.specs.declared.instructions.Instr.TheVariants.{Tick, Call}
use Rattle.lsl_code.specs.Bodies.{Body, instruction_at}
use Rattle.lsl_code.specs.Kinds.{kinds_of}
use Rattle.lsl_code.specs.Machine.{MachineCall, Next, On, Pauses, Halts, Passing, Waiting}

-- the call is directly after its call of this function
abbrev pub IsWaitingFor : List Body → MachineCall → ℕ → Type 0
IsWaitingFor bodies c g =
    (b : Body) × (k : ℕ) × (p : ℕ) × (slice_get bodies c.function ≡ Some b) × (c.place ≡ k + 1)
    × (slice_get b.code k ≡ Some (Call g p))

-- the calls wait for one another, the first for this function, and the last is the handler's
abbrev pub AreChained : List Body → ℕ → ℕ → List MachineCall → Type 0
AreChained bodies handler g [] = g ≡ handler
AreChained bodies handler g (c ∷ outer) = IsWaitingFor bodies c g × AreChained bodies handler c.function outer

abbrev pub IsChain : List Body → ℕ → List MachineCall → Type 0
IsChain bodies handler [] = ⊥
IsChain bodies handler (c ∷ outer) = AreChained bodies handler c.function outer

abbrev pub IsChainedNext : List Body → ℕ → Next → Type 0
IsChainedNext bodies handler (On m) = IsChain bodies handler m.calls
IsChainedNext bodies handler (Pauses (Passing m)) = IsChain bodies handler m.calls
IsChainedNext bodies handler (Pauses (Waiting id args)) = Unit {0}
IsChainedNext bodies handler (Halts e) = Unit {0}

-- the next instruction is a tick
abbrev pub IsAtTick : List Body → List MachineCall → Type 0
IsAtTick bodies [] = ⊥
IsAtTick bodies (c ∷ outer) = (p : ℕ) × (instruction_at bodies c.function c.place ≡ Some (Tick p))

-- the instruction of a point: a tick, or a call of a function
abbrev pub point_instr : Option ℕ → ℕ → Instr
point_instr None p = Tick p
point_instr (Some g) p = Call g p

-- the call is at the frame's point, with its instruction at place k, and has the frame's values
pub record Stands (bodies : List Body) (c : MachineCall) (k : ℕ) (callee : Option ℕ)
    (frame : Frame) : Type 0 where
  pub body : Body
  pub found : slice_get bodies c.function ≡ Some body
  pub here : slice_get body.code k ≡ Some (point_instr callee frame.point)
  pub point : Point
  pub mapped : slice_get body.points frame.point ≡ Some point
  pub calls : point.calls ≡ callee
  pub kinds : kinds_of frame.slots ≡ point.kinds
  pub slots : length c.slots ≡ length body.slots
  pub function : frame.function ≡ c.function
  pub values : frame.slots ≡ c.slots ++ reverse c.operands

-- the calls wait for a call of g, the outermost of them is the handler's, and these are their frames
abbrev pub Wait : List Body → ℕ → List MachineCall → List Frame → ℕ → Type 0
Wait bodies h [] [] g = g ≡ h
Wait bodies h [] (frame ∷ frames) g = ⊥
Wait bodies h (c ∷ outer) [] g = ⊥
Wait bodies h (c ∷ outer) (frame ∷ frames) g =
    (k : ℕ) × (c.place ≡ k + 1) × Stands bodies c k (Some g) frame × Wait bodies h outer frames c.function

-- the calls of a machine of this handler at a tick, and their frames
abbrev pub HasFrames : List Body → ℕ → List MachineCall → List Frame → Type 0
HasFrames bodies h [] frames = ⊥
HasFrames bodies h (c ∷ outer) [] = ⊥
HasFrames bodies h (c ∷ outer) (frame ∷ frames) =
    Stands bodies c c.place None frame × Wait bodies h outer frames c.function
