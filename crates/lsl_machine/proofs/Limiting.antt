-- The machine with another limit.
use Rattle.std.proofs.Common.{◌≡◌, ◌∙◌, refl, sym, ap, subst, arith, ℕ, ◌+◌, ◌≤◌, ℤ, List, ◌∷◌, Option}
use Rattle.lsl_value.specs.declared.tagged.Value.{Value}
use Rattle.lsl_running.specs.declared.kept.Kept.{Kept}
use Rattle.lsl_running.specs.Charging.{call_charge, charges_of, default_limit, hold_all, used}
use Rattle.lsl_running.specs.Limits.{granted}
use Rattle.lsl_code.specs.Acts.{gives_limit}
use Rattle.lsl_code.specs.Machine.{MachineCall, base, call_at}
use Rattle.lsl_machine.specs.declared.running.Running.{Running}
use Rattle.lsl_machine.specs.declared.running.Step.{Step}
use Rattle.lsl_machine.specs.Laid.{Lays}
use Rattle.lsl_machine.specs.Steps.{Does}

-- it is charged within that one too
pub limited : (r : Running) (g : Kept) (f pc n : ℕ) (sl ops : List Value) (outer : List MachineCall)
    → Lays r g (call_at f pc sl ops) outer → r.active.charge + r.global_charge ≤ n → n ≤ default_limit
    → Lays (record r { limit = n }) (record g { limit = n }) (call_at f pc sl ops) outer
limited r g f pc n sl ops outer h le small =
    let charge : r.active.charge ≡ base (call_at f pc sl ops ∷ outer) = ap (λ a. a.charge) h.active in
    let globals = h.global_charge in
    record {
      stack = h.stack;
      callers = h.callers;
      active = h.active;
      globals = h.globals;
      global_charge = h.global_charge;
      limit = refl;
      small = small;
      within = omega arith;
    }

-- the result of asking for a limit is that of the limit that is set
pub asked_limit : (r q : Running) (g : Kept) (f pc : ℕ) (sl rest : List Value) (outer : List MachineCall) (s : Step)
    (n : ℤ) (limit : Option ℕ) → Lays r g (call_at f pc sl rest) outer
    → granted n (r.active.charge + r.global_charge) ≡ limit
    → Does (gives_limit limit (base outer) sl rest g) g f pc sl outer s q
    → Does (gives_limit (granted n (used (hold_all (base outer) rest) sl g)) (base outer) sl rest g) g f pc sl outer s q
asked_limit r q g f pc sl rest outer s n limit h got done =
    let charge : r.active.charge ≡ hold_all (base outer) rest + call_charge + charges_of sl =
    ap (λ a. a.charge) h.active in
    let globals = h.global_charge in
    let all : used (hold_all (base outer) rest) sl g ≡ hold_all (base outer) rest + call_charge + charges_of sl +
    charges_of g.globals = refl in
    let same : used (hold_all (base outer) rest) sl g ≡ r.active.charge + r.global_charge = omega arith in
    subst (λ o. Does (gives_limit o (base outer) sl rest g) g f pc sl outer s q) (sym (ap (granted n) same ∙ got)) done
