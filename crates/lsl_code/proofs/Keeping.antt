-- While answers are left for all that can be asked, no step waits for one.
use Rattle.std.proofs.Common.{ℕ, ◌+◌, ◌≤◌, List, [], ◌∷◌, Bool, true, false, cond, Option, None, Some, arith, length}
use Rattle.lsl_value.specs.declared.tagged.Value.{Value}
use Rattle.lsl_running.specs.declared.ends.Fault.TheVariants.{StackHeap}
use Rattle.lsl_running.specs.declared.host.Reply.{Reply}
use Rattle.lsl_running.specs.declared.host.Reply.TheVariants as reply
use Rattle.lsl_running.specs.declared.kept.Kept.{Kept}
use Rattle.lsl_running.specs.Calling.{is_answered_by}
use Rattle.lsl_running.specs.Charging.{is_within}
use Rattle.lsl_code.specs.Bodies.{Body}
use Rattle.lsl_code.specs.Acts.{Did, Goes, Jumps, Enters, Leaves, Passes, Asks, Ends, Fails, Stuck}
use Rattle.lsl_code.specs.Machine.{MachineCall, Machine, Faulted, Lost, Passing, Waiting, Next, On, Pauses, Halts, used_in, put, checked, left_to, replied, after}
use Rattle.lsl_code.specs.Asking.{due_at, due_in}
use Rattle.lsl_code.proofs.Asked.{Due}

-- where a step continues in the same stretch, the answers are enough for what can be asked
abbrev pub Keeps : List Body → Next → Type 0
Keeps bodies (On m) = due_in bodies m.calls ≤ length m.answers
Keeps bodies (Pauses (Passing m)) = Unit {0}
Keeps bodies (Pauses (Waiting id args)) = ⊥
Keeps bodies (Halts e) = Unit {0}

pub checked_keeps : (bodies : List Body) (m : Machine) → due_in bodies m.calls ≤ length m.answers
    → Keeps bodies (checked m)
checked_keeps bodies m le =
    elim (is_within m.kept (used_in m.calls m.kept)) as
    (λ b. Keeps bodies (cond b (On m) (Halts (Faulted StackHeap)))) [ true ↦ le | false ↦ tt ]

pub left_keeps : (bodies : List Body) (k : ℕ) (outer : List MachineCall) (g : Kept) (a : List Reply)
    (o : Option Value) → k + due_in bodies outer ≤ length a → Keeps bodies (left_to outer g a o)
left_keeps bodies k [] g a o all = tt
left_keeps bodies k (c ∷ outer) g a None all = omega arith
left_keeps bodies k (c ∷ outer) g a (Some v) all =
    checked_keeps bodies (put g a c.function c.place c.slots (v ∷ c.operands) outer) (omega arith)

pub only_if_keeps : (bodies : List Body) (b : Bool) (x : Next) → Keeps bodies x → Keeps bodies (cond b x (Halts Lost))
only_if_keeps bodies true x h = h
only_if_keeps bodies false x h = tt

pub replied_keeps : (bodies : List Body) (r : Reply) (g : Kept) (a : List Reply) (f q : ℕ) (sl rest : List Value)
    (outer : List MachineCall) → due_at bodies f q + due_in bodies outer ≤ length a
    → Keeps bodies (replied r g a f q sl rest outer)
replied_keeps bodies (reply.Value (Some v)) g a f q sl rest outer h =
    checked_keeps bodies (put g a f q sl (v ∷ rest) outer) h
replied_keeps bodies (reply.Value None) g a f q sl rest outer h = h
replied_keeps bodies (reply.Stop x) g a f q sl rest outer h = tt

pub after_keeps : (bodies : List Body) (k : ℕ) (d : Did) (g : Kept) (a : List Reply) (f pc : ℕ)
    (sl ops : List Value) (outer : List MachineCall) → Due bodies f pc k d → k + due_in bodies outer ≤ length a
    → Keeps bodies (after d g a f pc sl ops outer)
after_keeps bodies k (Goes sl' ops' g') g a f pc sl ops outer h all = omega arith
after_keeps bodies k (Jumps t ops') g a f pc sl ops outer h all = omega arith
after_keeps bodies k (Enters j ns rest) g a f pc sl ops outer h all = omega arith
after_keeps bodies k (Leaves o) g a f pc sl ops outer h all = left_keeps bodies k outer g a o all
after_keeps bodies k Passes g a f pc sl ops outer h all = tt
after_keeps bodies k (Asks id args rest) g [] f pc sl ops outer h all = absurd (omega arith)
after_keeps bodies k (Asks id args rest) g (r ∷ more) f pc sl ops outer h all =
    only_if_keeps bodies (is_answered_by id r) (replied r g more f (pc + 1) sl rest outer)
    (replied_keeps bodies r g more f (pc + 1) sl rest outer (omega arith))
after_keeps bodies k (Ends s) g a f pc sl ops outer h all = tt
after_keeps bodies k (Fails x) g a f pc sl ops outer h all = tt
after_keeps bodies k Stuck g a f pc sl ops outer h all = tt
