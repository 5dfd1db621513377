-- A step leaves calls that wait for one another.
use Rattle.std.proofs.Common.{◌≡◌, ℕ, ◌+◌, List, [], ◌∷◌, Option, Some, None, Bool, true, false, cond, refl, ap, ◌∙◌, slice_get}
use Rattle.lsl_value.specs.declared.tagged.Value.{Value}
use Rattle.lsl_running.specs.declared.ends.Fault.TheVariants.{StackHeap}
use Rattle.lsl_running.specs.declared.host.Reply.{Reply}
use Rattle.lsl_running.specs.declared.host.Reply.TheVariants as reply
use Rattle.lsl_running.specs.declared.kept.Kept.{Kept}
use Rattle.lsl_running.specs.Calling.{is_answered_by}
use Rattle.lsl_running.specs.Charging.{is_within}
use Rattle.lsl_code.specs.declared.instructions.Instr.{Instr}
use Rattle.lsl_code.specs.Acts.{Did, Goes, Jumps, Enters, Leaves, Passes, Asks, Ends, Fails, Stuck, act}
use Rattle.lsl_code.specs.Bodies.{Body, instruction_in, instruction_at}
use Rattle.lsl_code.specs.FrameLaws.{StaysChained}
use Rattle.lsl_code.specs.Machine.{MachineCall, Machine, Next, On, Halts, Faulted, Lost, base, used_in, put, checked, left_to, replied, after, done_by, step_in}
use Rattle.lsl_code.specs.Standing.{AreChained, IsChain, IsChainedNext}
use Rattle.lsl_code.proofs.Acts.{By, act_by}

-- an instruction that is there is one of a function that is there
pub body_there : (bodies : List Body) (f place : ℕ) (i : Instr) (o : Option Body) → slice_get bodies f ≡ o
    → instruction_in o place ≡ Some i
    → (b : Body) × (slice_get bodies f ≡ Some b) × (slice_get b.code place ≡ Some i)
body_there bodies f place i None there e = absurd cc
body_there bodies f place i (Some b) there e = (b, there, e)

module _ (bodies : List Body) (h : ℕ) where
  abbrev Chained : Next → Type 0
  Chained x = IsChainedNext bodies h x

  checked_chained : (m : Machine) → IsChain bodies h m.calls → Chained (checked m)
  checked_chained m c =
      elim (is_within m.kept (used_in m.calls m.kept)) as
      (λ b. Chained (cond b (On m) (Halts (Faulted StackHeap)))) [ true ↦ c | false ↦ tt ]

  left_chained : (f : ℕ) (outer : List MachineCall) (g : Kept) (a : List Reply) (given : Option Value)
      → AreChained bodies h f outer → Chained (left_to outer g a given)
  left_chained f [] g a given c = tt
  left_chained f (caller ∷ outer) g a None c = c.1
  left_chained f (caller ∷ outer) g a (Some v) c =
      checked_chained (put g a caller.function caller.place caller.slots (v ∷ caller.operands) outer) c.1

  replied_chained : (r : Reply) (g : Kept) (a : List Reply) (f place : ℕ) (sl rest : List Value)
      (outer : List MachineCall) → AreChained bodies h f outer → Chained (replied r g a f place sl rest outer)
  replied_chained (reply.Value (Some v)) g a f place sl rest outer c =
      checked_chained (put g a f place sl (v ∷ rest) outer) c
  replied_chained (reply.Value None) g a f place sl rest outer c = c
  replied_chained (reply.Stop fault) g a f place sl rest outer c = tt

  only_if_chained : (b : Bool) (x : Next) → Chained x → Chained (cond b x (Halts Lost))
  only_if_chained true x c = c
  only_if_chained false x c = tt

  after_chained : (d : Did) (i : Instr) (g : Kept) (a : List Reply) (f place : ℕ) (sl ops : List Value)
      (outer : List MachineCall) → instruction_at bodies f place ≡ Some i → By bodies i d
      → AreChained bodies h f outer → Chained (after d g a f place sl ops outer)
  after_chained (Goes sl' ops' g') i g a f place sl ops outer here by c = c
  after_chained (Jumps to ops') i g a f place sl ops outer here by c = c
  after_chained (Enters j ns rest) i g a f place sl ops outer here by c =
      let b = body_there bodies f place i (slice_get bodies f) refl here in
      ((b.0, place, by.0, b.1, refl, b.2 ∙ ap Some by.1), c)
  after_chained (Leaves given) i g a f place sl ops outer here by c = left_chained f outer g a given c
  after_chained Passes i g a f place sl ops outer here by c = c
  after_chained (Asks id args rest) i g [] f place sl ops outer here by c = tt
  after_chained (Asks id args rest) i g (r ∷ more) f place sl ops outer here by c =
      only_if_chained (is_answered_by id r) (replied r g more f (place + 1) sl rest outer)
      (replied_chained r g more f (place + 1) sl rest outer c)
  after_chained (Ends way) i g a f place sl ops outer here by c = tt
  after_chained (Fails fault) i g a f place sl ops outer here by c = tt
  after_chained Stuck i g a f place sl ops outer here by c = tt

  at_instruction : (g : Kept) (a : List Reply) (caller : MachineCall) (outer : List MachineCall)
      (o : Option Instr)
      → instruction_at bodies caller.function caller.place ≡ o → AreChained bodies h caller.function outer
      → Chained (done_by bodies o g a caller.function caller.place caller.slots caller.operands outer)
  at_instruction g a caller outer None here c = tt
  at_instruction g a caller outer (Some i) here c =
      after_chained (act bodies (Some i) g
      (base outer) caller.slots caller.operands) i g a caller.function caller.place
      caller.slots caller.operands outer here (act_by bodies i g (base outer) caller.slots caller.operands) c

  step_chained : (g : Kept) (a : List Reply) (calls : List MachineCall) → IsChain bodies h calls
      → Chained (step_in bodies g a calls)
  step_chained g a [] c = absurd c
  step_chained g a (caller ∷ outer) c =
      at_instruction g a caller outer (instruction_at bodies caller.function caller.place) refl c

pub stays_chained : StaysChained
stays_chained bodies h m c = step_chained bodies h m.kept m.answers m.calls c
