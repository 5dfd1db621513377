-- A tick is passed.
use Rattle.std.proofs.Common.{◌≡◌, ◌∙◌, refl, sym, ap, subst, arith, ℕ, ◌+◌, ◌<◌, List, [], ◌∷◌, reverse, Bool, true, false, cond, Option, Some, None}
use Rattle.lsl_value.specs.declared.tagged.Value.{Value}
use Rattle.lsl_running.specs.declared.ends.Fault.TheVariants.{StackHeap}
use Rattle.lsl_running.specs.declared.host.Reply.{Reply}
use Rattle.lsl_running.specs.declared.kept.Kept.{Kept}
use Rattle.lsl_running.specs.Charging.{is_within}
use Rattle.lsl_code.specs.Acts.{Did, Goes, Jumps, Enters, Leaves, Passes, Asks, Ends, Fails, Stuck, act}
use Rattle.lsl_code.specs.Bodies.{Body, instruction_at}
use Rattle.lsl_code.specs.Laws.{with_answers}
use Rattle.lsl_code.specs.Machine.{MachineCall, Machine, On, Pauses, Halts, Passing, Faulted, base, used_in, call_at, put, left_to, after, step}
use Rattle.lsl_machine.specs.declared.running.Running.{Running}
use Rattle.lsl_machine.specs.Laid.{Lays, Held, machine_of}
use Rattle.std.proofs.lemmas.Option.{slice_get_within}
use Rattle.std.proofs.Common.{◌^◌}
use Rattle.lsl_code.specs.declared.woven_units.Woven.{Woven as Code}
use Rattle.lsl_code.specs.Kinds.{kinds_of}
use Rattle.lsl_machine.specs.State.{IsKinded, bodies_of}
use Rattle.lsl_machine.proofs.Laying.{placed}
use Rattle.lsl_machine.proofs.Moving.{well_formed, held_holds, kinded_next}
use Rattle.lsl_machine.proofs.Remaining.{parts_of}
use Rattle.lsl_machine.proofs.Viewing.{machine_view}

left_passes : (outer : List MachineCall) (g : Kept) (given : Option Value) (n : Machine)
    → left_to outer g [] given ≡ Pauses (Passing n) → ⊥
left_passes [] g given n e = absurd cc
left_passes (c ∷ outer) g None n e = absurd cc
left_passes (c ∷ outer) g (Some v) n e =
    go (is_within g (used_in (call_at c.function c.place c.slots (v ∷ c.operands) ∷ outer) g)) e where
      go : (b : Bool) → cond b (On (put g [] c.function c.place c.slots (v ∷ c.operands) outer))
          (Halts (Faulted StackHeap)) ≡ Pauses (Passing n) → ⊥
      go true e = absurd cc
      go false e = absurd cc

pub passes_only : (d : Did) (g : Kept) (f place : ℕ) (sl ops : List Value) (outer : List MachineCall) (n : Machine)
    → after d g [] f place sl ops outer ≡ Pauses (Passing n) → d ≡ Passes
passes_only Passes g f place sl ops outer n e = refl
passes_only (Leaves given) g f place sl ops outer n e = absurd (left_passes outer g given n e)
passes_only (Goes slots operands kept) g f place sl ops outer n e = absurd cc
passes_only (Jumps to operands) g f place sl ops outer n e = absurd cc
passes_only (Enters callee slots rest) g f place sl ops outer n e = absurd cc
passes_only (Asks id args rest) g f place sl ops outer n e = absurd cc
passes_only (Ends way) g f place sl ops outer n e = absurd cc
passes_only (Fails fault) g f place sl ops outer n e = absurd cc
passes_only Stuck g f place sl ops outer n e = absurd cc

abbrev pub behind_it : Running → Running
behind_it r = record r { active = record r.active { place = r.active.place + 1 } }

pub behind_held : (r : Running) → Held r → Held (behind_it r)
behind_held r h =
    let p : h.2 ≡ r.active.place = sym (ap (λ a. a.place) h.6.active) in (
      h.0,
      h.1,
      h.2 + 1,
      h.3,
      h.4,
      h.5,
      subst (λ q. Lays (record r { active = record r.active { place = q + 1 } }) h.0
          (call_at h.1 (h.2 + 1) h.3 h.4) h.5) p (placed r h.0 h.1 h.2 (h.2 + 1) h.3 h.4 h.5 h.6),
    )

-- with these answers too
pub tick_passed : (bodies : List Body) (r : Running) (n : Machine) → Held r
    → step bodies (machine_of r) ≡ Pauses (Passing n) → (a : List Reply)
    → step bodies (with_answers a (machine_of r)) ≡ Pauses (Passing (with_answers a (machine_of (behind_it r))))
unfolding behind_held
tick_passed bodies r n h e a =
    let g = h.0 in
    let f = h.1 in
    let place = h.2 in
    let sl = h.3 in
    let ops = h.4 in
    let outer = h.5 in
    let v : machine_of r ≡ put g [] f place sl ops outer = machine_view r g (call_at f place sl ops) outer h.6 in
    let k = behind_held r h in
    let w : machine_of (behind_it r) ≡ put g [] f (place + 1) sl ops outer =
    machine_view (behind_it r) g (call_at f (place + 1) sl ops) outer k.6 in
    let d = act bodies (instruction_at bodies f place) g (base outer) sl ops in
    let passes : d ≡ Passes = passes_only d g f place sl ops outer n (sym (ap (step bodies) v) ∙ e) in
    ap (λ m. step bodies (with_answers a m)) v ∙ ap (λ x. after x g a f place sl ops outer) passes
    ∙ ap (λ m. Pauses (Passing (with_answers a m))) (sym w)

pub place_small : (unit : Code) (r : Running) → Held r → IsKinded unit (machine_of r) → r.active.place + 1 < 2 ^ 32
place_small unit r h k =
    let v : machine_of r ≡ put h.0 [] h.1 h.2 h.3 h.4 h.5 = machine_view r h.0 (call_at h.1 h.2 h.3 h.4) h.5 h.6 in
    let kinded : IsKinded unit (put h.0 [] h.1 h.2 h.3 h.4 h.5) = subst (IsKinded unit) v k in
    let w = kinded.calls.0 in
    let wf = (well_formed unit).functions h.1 w kinded.calls.1 in
    let within = slice_get_within w.stacks h.2 (Some (reverse (kinds_of h.4))) kinded.calls.2.1 in
    let len = wf.stacks in
    let short = wf.short in
    let at : r.active.place ≡ h.2 = ap (λ a. a.place) h.6.active in
    omega arith

pub behind_kinded : (unit : Code) (r : Running) (n : Machine) → Held r → IsKinded unit (machine_of r)
    → step (bodies_of unit) (machine_of r) ≡ Pauses (Passing n) → IsKinded unit (machine_of (behind_it r))
behind_kinded unit r n h k e =
    kinded_next unit r (machine_of r) (Pauses (Passing (machine_of (behind_it r))))
    (parts_of r (machine_of r) (held_holds r h)) k (tick_passed (bodies_of unit) r n h e [])
