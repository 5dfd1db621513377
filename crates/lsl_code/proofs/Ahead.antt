-- No step between two ticks adds host calls ahead, and after each one that is made are fewer.
use Rattle.std.proofs.Common.{◌≡◌, ℕ, zero, suc, ◌+◌, ◌<◌, ◌≤◌, List, [], ◌∷◌, Bool, true, false, cond, Option, None, Some, refl, sym, subst, arith, slice_get}
use Rattle.lsl_value.specs.declared.names.BuiltinId.{BuiltinId}
use Rattle.lsl_value.specs.declared.tagged.Value.{Value}
use Rattle.lsl_running.specs.declared.ends.Fault.TheVariants.{StackHeap}
use Rattle.lsl_running.specs.declared.host.Reply.{Reply}
use Rattle.lsl_running.specs.declared.host.Reply.TheVariants as reply
use Rattle.lsl_running.specs.declared.kept.Kept.{Kept}
use Rattle.lsl_running.specs.Calling.{is_answered_by}
use Rattle.lsl_running.specs.Charging.{is_within}
use Rattle.lsl_code.specs.declared.instructions.Instr.{Instr}
use Rattle.lsl_code.specs.Acts.{Did, Goes, Jumps, Enters, Leaves, Passes, Asks, Ends, Fails, Stuck, act}
use Rattle.lsl_code.specs.Asking.{code_of, due_of, due_at, due_in}
use Rattle.lsl_code.specs.Bodies.{Body, instruction_at}
use Rattle.lsl_code.specs.Forward.{Forward}
use Rattle.lsl_code.specs.Machine.{MachineCall, Machine, Faulted, Lost, Passing, Waiting, Next, On, Pauses, Halts, base, used_in, put, checked, left_to, replied, after, done_by, step_in, step}
use Rattle.lsl_code.specs.Runs.{Halt, Over, AskAt, CutAt, on, run, passed}
use Rattle.lsl_code.proofs.Acts.{act_by}
use Rattle.lsl_code.proofs.Asked.{Due, by_due}
use Rattle.lsl_code.proofs.Ranks.{left}
use Rattle.lsl_code.proofs.Running.{Falls, step_falls, run_law}

-- where a step continues in the same stretch, at most k are ahead; where it asks, k are more than these after it
abbrev pub Ahead : List Body → ℕ → ℕ → Next → Type 0
Ahead bodies k behind (On m) = due_in bodies m.calls ≤ k
Ahead bodies k behind (Pauses (Waiting id args)) = suc behind ≤ k
Ahead bodies k behind (Pauses (Passing m)) = Unit {0}
Ahead bodies k behind (Halts e) = Unit {0}

checked_ahead : (bodies : List Body) (k behind : ℕ) (m : Machine) → due_in bodies m.calls ≤ k
    → Ahead bodies k behind (checked m)
checked_ahead bodies k behind m le =
    elim (is_within m.kept (used_in m.calls m.kept)) as
    (λ b. Ahead bodies k behind (cond b (On m) (Halts (Faulted StackHeap)))) [ true ↦ le | false ↦ tt ]

left_ahead : (bodies : List Body) (k behind : ℕ) (outer : List MachineCall) (g : Kept) (a : List Reply)
    (o : Option Value) → due_in bodies outer ≤ k → Ahead bodies k behind (left_to outer g a o)
left_ahead bodies k behind [] g a o le = tt
left_ahead bodies k behind (c ∷ outer) g a None le = le
left_ahead bodies k behind (c ∷ outer) g a (Some v) le =
    checked_ahead bodies k behind (put g a c.function c.place c.slots (v ∷ c.operands) outer) le

only_if_ahead : (bodies : List Body) (k behind : ℕ) (b : Bool) (x : Next) → Ahead bodies k behind x
    → Ahead bodies k behind (cond b x (Halts Lost))
only_if_ahead bodies k behind true x h = h
only_if_ahead bodies k behind false x h = tt

replied_ahead : (bodies : List Body) (k behind : ℕ) (r : Reply) (g : Kept) (a : List Reply) (f q : ℕ)
    (sl rest : List Value) (outer : List MachineCall) → due_at bodies f q + due_in bodies outer ≤ k
    → Ahead bodies k behind (replied r g a f q sl rest outer)
replied_ahead bodies k behind (reply.Value (Some v)) g a f q sl rest outer le =
    checked_ahead bodies k behind (put g a f q sl (v ∷ rest) outer) le
replied_ahead bodies k behind (reply.Value None) g a f q sl rest outer le = le
replied_ahead bodies k behind (reply.Stop x) g a f q sl rest outer le = tt

after_ahead : (bodies : List Body) (k : ℕ) (d : Did) (g : Kept) (a : List Reply) (f pc : ℕ) (sl ops : List Value)
    (outer : List MachineCall) → Due bodies f pc k d
    → Ahead bodies (k + due_in bodies outer) (due_at bodies f (pc + 1) + due_in bodies outer)
    (after d g a f pc sl ops outer)
after_ahead bodies k (Goes sl' ops' g') g a f pc sl ops outer h = omega arith
after_ahead bodies k (Jumps t ops') g a f pc sl ops outer h = omega arith
after_ahead bodies k (Enters j ns rest) g a f pc sl ops outer h = omega arith
after_ahead bodies k (Leaves o) g a f pc sl ops outer h = left_ahead bodies _ _ outer g a o (omega arith)
after_ahead bodies k Passes g a f pc sl ops outer h = tt
after_ahead bodies k (Asks id args rest) g [] f pc sl ops outer h = omega arith
after_ahead bodies k (Asks id args rest) g (r ∷ more) f pc sl ops outer h =
    only_if_ahead bodies _ _ (is_answered_by id r) (replied r g more f (pc + 1) sl rest outer)
    (replied_ahead bodies _ _ r g more f (pc + 1) sl rest outer (omega arith))
after_ahead bodies k (Ends s) g a f pc sl ops outer h = tt
after_ahead bodies k (Fails x) g a f pc sl ops outer h = tt
after_ahead bodies k Stuck g a f pc sl ops outer h = tt

-- what is ahead of these calls, once the innermost has its answer
abbrev pub due_behind : List Body → List MachineCall → ℕ
due_behind bodies [] = 0
due_behind bodies (c ∷ outer) = due_at bodies c.function (c.place + 1) + due_in bodies outer

module _ (bodies : List Body) (forward : Forward bodies) where
  fetched_ahead : (g : Kept) (a : List Reply) (c : MachineCall) (outer : List MachineCall) (o : Option Instr)
      → instruction_at bodies c.function c.place ≡ o
      → Ahead bodies
      (due_of o (instruction_at bodies c.function (c.place + 1)) c.place (code_of (slice_get bodies c.function))
      + due_in bodies outer)
      (due_behind bodies (c ∷ outer)) (done_by bodies o g a c.function c.place c.slots c.operands outer)
  fetched_ahead g a c outer None e = tt
  fetched_ahead g a c outer (Some i) e =
      after_ahead bodies _ (act bodies (Some i) g (base outer) c.slots c.operands) g a c.function c.place c.slots
      c.operands outer
      (by_due bodies forward c.function c.place i _ (act_by bodies i g (base outer) c.slots c.operands) e
      (forward.lands c.function c.place i e) (forward.behind c.function c.place i e))

  step_ahead : (g : Kept) (a : List Reply) (calls : List MachineCall)
      → Ahead bodies (due_in bodies calls) (due_behind bodies calls) (step_in bodies g a calls)
  step_ahead g a [] = tt
  step_ahead g a (c ∷ outer) = fetched_ahead g a c outer (instruction_at bodies c.function c.place) refl

  -- the machine that asks has at most k ahead, and fewer after what it asks
  abbrev AsksWithin : ℕ → Halt → Type 0
  AsksWithin k (AskAt id args at t) = (due_in bodies at.calls ≤ k) × (suc (due_behind bodies at.calls) ≤ k)
  AsksWithin k (Over e) = Unit {0}
  AsksWithin k (CutAt m) = Unit {0}

  on_within : (k : ℕ) (m : Machine) (y : Next) → due_in bodies m.calls ≤ k → Falls bodies (left bodies m) y
      → Ahead bodies (due_in bodies m.calls) (due_behind bodies m.calls) y
      → ((next : Machine) → left bodies next < left bodies m → due_in bodies next.calls ≤ k
      → AsksWithin k (run bodies 0 next))
      → AsksWithin k (on y (passed bodies 0 m) (run bodies 0))
  on_within k m (On next) le falls ahead go = go next falls (omega arith)
  on_within k m (Pauses (Passing next)) le falls ahead go = tt
  on_within k m (Pauses (Waiting id args)) le falls ahead go = (le, omega arith)
  on_within k m (Halts e) le falls ahead go = tt

  within : (n k : ℕ) (m : Machine) → left bodies m ≤ n → due_in bodies m.calls ≤ k
      → AsksWithin k (run bodies 0 m)
  within zero k m ln le =
      subst (AsksWithin k) (sym (run_law bodies forward 0 m))
      (on_within k m (step bodies m) le (step_falls bodies forward m) (step_ahead m.kept m.answers m.calls)
      (λ next lt le'. absurd (omega arith)))
  within (suc n) k m ln le =
      subst (AsksWithin k) (sym (run_law bodies forward 0 m))
      (on_within k m (step bodies m) le (step_falls bodies forward m) (step_ahead m.kept m.answers m.calls)
      (λ next lt le'. within n k next (omega arith) le'))

  -- where a run asks before its next tick, at most as many are ahead as where it began, and fewer after what it asks
  pub asks_within : (m at : Machine) (id : BuiltinId) (args : List Value) (t : ℕ) → run bodies 0 m ≡ AskAt id args at t
      → (due_in bodies at.calls ≤ due_in bodies m.calls) × (suc (due_behind bodies at.calls) ≤ due_in bodies m.calls)
  asks_within m at id args t e =
      subst (AsksWithin (due_in bodies m.calls)) e
      (within (left bodies m) (due_in bodies m.calls) m (omega arith) (omega arith))
