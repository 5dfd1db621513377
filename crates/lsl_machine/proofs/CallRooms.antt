-- Host calls: their arguments, and the buffer that is kept for the next.
use Rattle.std.proofs.Common.{◌≡◌, ◌∙◌, ap, ℕ, List, [], ◌∷◌, Option, Some, None, Result, Ok, Err, reverse, take, drop}
use Rattle.std.specs.Result.{IfOk}
use Rattle.std.specs.Option.{option_to_list}
use Rattle.lsl_value.specs.declared.tagged.Value.{Value}
use Rattle.lsl_running.specs.Asking.{Call}
use Rattle.lsl_running.specs.declared.kept.Kept.{Kept}
use Rattle.lsl_code.specs.Machine.{MachineCall, call_at}
use Rattle.lsl_machine.specs.declared.running.Running.{Running}
use Rattle.lsl_machine.specs.declared.standing.Standing.{Standing}
use Rattle.lsl_machine.specs.declared.standing.Standing.TheVariants as standing
use Rattle.lsl_machine.specs.Laid.{Held, IsLaid, Lays}
use Rattle.lsl_machine.specs.Steps.{Popped}

-- the buffer isn't part of what lies in the machine
pub spared : (r : Running) (room : Option Call) (g : Kept) (c : MachineCall) (outer : List MachineCall)
    → Lays r g c outer → Lays (record r { spare = room }) g c outer
spared r room g c outer h = record {
  stack = h.stack;
  callers = h.callers;
  active = h.active;
  globals = h.globals;
  global_charge = h.global_charge;
  limit = h.limit;
  small = h.small;
  within = h.within;
}

pub spared_held : (r : Running) (room : Option Call) → Held r → Held (record r { spare = room })
spared_held r room h =
    (h.0, h.1, h.2, h.3, h.4, h.5, spared r room h.0 (call_at h.1 h.2 h.3 h.4) h.5 h.6)

pub spared_laid : (r : Running) (room : Option Call) (s : Standing) → IsLaid r s → IsLaid (record r { spare = room }) s
spared_laid r room standing.Ready h = spared_held r room h
spared_laid r room standing.AtTick h = spared_held r room h
spared_laid r room (standing.Asking id) h = (spared_held r room h.0, h.1)
spared_laid r room standing.Full h = h
spared_laid r room (standing.Ended way) h = h
spared_laid r room standing.Lost h = h

-- the top operand is the one argument, if there is one
pub argument_taken : (g : Kept) (f place : ℕ) (sl ops : List Value) (outer : List MachineCall) (top : Option Value)
    (r : Running) (args : List Value) → Popped g f place sl ops outer top r → args ≡ option_to_list top
    → (args ≡ reverse (take 1 ops)) × Lays r g (call_at f place sl (drop 1 ops)) outer
argument_taken g f place sl [] outer None r args p e = (e, p)
argument_taken g f place sl [] outer (Some w) r args p e = absurd p
argument_taken g f place sl (v ∷ rest) outer None r args p e = absurd p
argument_taken g f place sl (v ∷ rest) outer (Some w) r args p e = (e ∙ ap (λ (x : Value). x ∷ []) p.0, p.1)

-- a call that was built from these arguments
pub made_of : {E : Type 0} (made : Result Call E) (args wanted : List Value) (Lies : Type 0)
    → IfOk made (λ call. call.args ≡ args) → args ≡ wanted → Lies → IfOk made (λ call. (call.args ≡ wanted) × Lies)
made_of (Ok call) args wanted Lies made same lies = (made ∙ same, lies)
made_of (Err e) args wanted Lies made same lies = tt
