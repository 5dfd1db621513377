-- An answer leaves no more host calls ahead.
use Rattle.std.proofs.Common.{◌≡◌, ◌≤◌, subst, arith, Bool, true, false, cond, List, [], ◌∷◌, Option, Some, None}
use Rattle.lsl_value.specs.declared.tagged.Value.{Value}
use Rattle.lsl_running.specs.declared.ends.Fault.TheVariants.{StackHeap}
use Rattle.lsl_running.specs.declared.host.Reply.TheVariants as reply
use Rattle.lsl_running.specs.declared.kept.Kept.{Kept}
use Rattle.lsl_running.specs.Charging.{is_within}
use Rattle.lsl_code.specs.Asking.{due_in}
use Rattle.lsl_code.specs.Bodies.{Body}
use Rattle.lsl_code.specs.Laws.{with_answers}
use Rattle.lsl_code.specs.Machine.{MachineCall, Machine, Faulted, On, Halts, call_at, put, used_in}
use Rattle.lsl_machine.specs.declared.standing.Standing.{Standing}
use Rattle.lsl_machine.specs.declared.standing.Standing.TheVariants as standing
use Rattle.lsl_machine.specs.Entry.{IsReady, went}
use Rattle.lsl_machine.specs.State.{asks_ahead_at, replied_to}
use Rattle.lsl_machine.proofs.Chained.{on_is}

replied_ahead : (bodies : List Body) (given : Option Value) (g : Kept) (calls : List MachineCall) (n : Machine)
    → replied_to (reply.Value given) g [] calls ≡ On n → due_in bodies n.calls ≤ due_in bodies calls
replied_ahead bodies given g [] n e = absurd cc
replied_ahead bodies None g (c ∷ outer) n e =
    subst (λ (m : Machine). due_in bodies m.calls ≤ due_in bodies (c ∷ outer))
    (on_is (put g [] c.function c.place c.slots c.operands outer) n e) (omega arith)
replied_ahead bodies (Some v) g (c ∷ outer) n e =
    go (is_within g (used_in (call_at c.function c.place c.slots (v ∷ c.operands) ∷ outer) g)) e where
      go : (b : Bool) → cond b (On (put g [] c.function c.place c.slots (v ∷ c.operands) outer))
          (Halts (Faulted StackHeap)) ≡ On n → due_in bodies n.calls ≤ due_in bodies (c ∷ outer)
      go true e =
          subst (λ (m : Machine). due_in bodies m.calls ≤ due_in bodies (c ∷ outer))
          (on_is (put g [] c.function c.place c.slots (v ∷ c.operands) outer) n e) (omega arith)
      go false e = absurd cc

pub answered_ahead : (bodies : List Body) (given : Option Value) (old new : Machine) (s : Standing)
    → IsReady s → replied_to (reply.Value given) old.kept [] old.calls ≡ went s [] new
    → asks_ahead_at bodies s new ≤ due_in bodies old.calls
answered_ahead bodies given old new standing.Ready ready e =
    replied_ahead bodies given old.kept old.calls (with_answers [] new) e
answered_ahead bodies given old new standing.Full ready e = omega arith
answered_ahead bodies given old new s ready e = absurd ready
