-- A handler begins, and answers are taken.
use Rattle.std.proofs.Common.{◌≡◌, ◌∙◌, refl, sym, ap, subst, ℕ, List, [], ◌∷◌, length, Bool, true, false, cond, Option, Some, None}
use Rattle.lsl_value.specs.declared.tagged.Kind.{Kind}
use Rattle.lsl_value.specs.declared.tagged.Value.{Value}
use Rattle.lsl_running.specs.declared.ends.Fault.TheVariants.{StackHeap}
use Rattle.lsl_running.specs.declared.host.Reply.{Reply}
use Rattle.lsl_running.specs.declared.kept.Kept.{Kept}
use Rattle.lsl_running.specs.Charging.{is_within}
use Rattle.lsl_code.specs.Bodies.{Body}
use Rattle.lsl_code.specs.Laws.{with_answers}
use Rattle.lsl_code.specs.Machine.{MachineCall, Machine, On, Halts, Faulted, Lost, used_in, call_at, put, checked}
use Rattle.lsl_code.specs.Runs.{Over}
use Rattle.lsl_machine.specs.declared.running.Running.{Running}
use Rattle.lsl_machine.specs.declared.running.Step.{Step}
use Rattle.lsl_machine.specs.declared.running.Step.TheVariants as steps
use Rattle.lsl_machine.specs.Laid.{Held, machine_of}
use Rattle.lsl_machine.specs.Steps.{Comes}
use Rattle.std.proofs.Common.{option_map}
use Rattle.lsl_value.specs.Values.{kind_of}
use Rattle.lsl_value.specs.declared.names.BuiltinId.{BuiltinId}
use Rattle.lsl_table.specs.Calls.{row_of}
use Rattle.lsl_running.specs.declared.host.Reply.TheVariants as reply
use Rattle.lsl_running.specs.declared.ends.Fault.{Fault}
use Rattle.lsl_running.specs.Calling.{is_answered_by, is_answer_to}
use Rattle.lsl_code.specs.declared.woven_units.Woven.{Woven as Code}
use Rattle.lsl_code.specs.Kinded.{Answers, IsKindedNext}
use Rattle.lsl_code.specs.Kinds.{kinds_of}
use Rattle.lsl_machine.specs.declared.standing.Standing.{Standing}
use Rattle.lsl_machine.specs.declared.standing.Standing.TheVariants as standing
use Rattle.lsl_machine.specs.Entry.{IsReady, went}
use Rattle.lsl_machine.specs.Futures.{halt_from, ticks_passed, run_on}
use Rattle.lsl_machine.specs.State.{CanRun, Wants, IsIn, bodies_of, replied_to}
use Rattle.lsl_machine.proofs.Viewing.{machine_view}

-- nothing is pushed
pub none_went : (r : Running) (more : List Reply) → Held r
    → replied_to (reply.Value None) (machine_of r).kept more (machine_of r).calls ≡ On
    (with_answers more (machine_of r))
none_went r more h =
    let v = machine_view r h.0 (call_at h.1 h.2 h.3 h.4) h.5 h.6 in
    subst (λ (m : Machine). replied_to (reply.Value None) m.kept more m.calls ≡ On (with_answers more m)) (sym v)
    refl

abbrev within_here : Kept → (f place : ℕ) → (sl ops : List Value) → List MachineCall → Value → Bool
within_here g f place sl ops outer v = is_within g (used_in (call_at f place sl (v ∷ ops) ∷ outer) g)

-- a value is pushed
pub some_went : (r q : Running) (v : Value) (more : List Reply) (h : Held r)
    → Comes (checked (put h.0 [] h.1 h.2 h.3 (v ∷ h.4) h.5)) steps.Goes q
    → (replied_to (reply.Value (Some v)) (machine_of r).kept more (machine_of r).calls ≡ On
    (with_answers more (machine_of q))) × Held q
some_went r q v more h c =
    let view = machine_view r h.0 (call_at h.1 h.2 h.3 h.4) h.5 h.6 in
    let n = put h.0 [] h.1 h.2 h.3 (v ∷ h.4) h.5 in
    go (within_here h.0 h.1 h.2 h.3 h.4 h.5 v) refl c view
  where
    go : (b : Bool) → within_here h.0 h.1 h.2 h.3 h.4 h.5 v ≡ b
        → Comes (cond b (On (put h.0 [] h.1 h.2 h.3 (v ∷ h.4) h.5)) (Halts (Faulted StackHeap))) steps.Goes q
        → machine_of r ≡ put h.0 [] h.1 h.2 h.3 h.4 h.5
        → (replied_to (reply.Value (Some v)) (machine_of r).kept more (machine_of r).calls ≡ On
        (with_answers more (machine_of q))) × Held q
    go true e c view =
        let lays = c.0 in
        let there = machine_view q h.0 (call_at h.1 h.2 h.3 (v ∷ h.4)) h.5 lays in (
          ap (λ (m : Machine). replied_to (reply.Value (Some v)) m.kept more m.calls) view
              ∙ ap (λ b. cond b (On (put h.0 more h.1 h.2 h.3 (v ∷ h.4) h.5)) (Halts (Faulted StackHeap))) e
              ∙ ap (λ m. On (with_answers more m)) (sym there),
          (h.0, h.1, h.2, h.3, v ∷ h.4, h.5, lays),
        )
    go false e c view = absurd c

pub full_went : (r q : Running) (v : Value) (more : List Reply) (x : Fault) (h : Held r)
    → Comes (checked (put h.0 [] h.1 h.2 h.3 (v ∷ h.4) h.5)) (steps.Faults x) q
    → replied_to (reply.Value (Some v)) (machine_of r).kept more (machine_of r).calls ≡ Halts (Faulted StackHeap)
full_went r q v more x h c =
    go (within_here h.0 h.1 h.2 h.3 h.4 h.5 v) refl x c (machine_view r h.0 (call_at h.1 h.2 h.3 h.4) h.5 h.6)
  where
    go : (b : Bool) → within_here h.0 h.1 h.2 h.3 h.4 h.5 v ≡ b → (x : Fault)
        → Comes (cond b (On (put h.0 [] h.1 h.2 h.3 (v ∷ h.4) h.5)) (Halts (Faulted StackHeap))) (steps.Faults x) q
        → machine_of r ≡ put h.0 [] h.1 h.2 h.3 h.4 h.5
        → replied_to (reply.Value (Some v)) (machine_of r).kept more (machine_of r).calls ≡ Halts
        (Faulted StackHeap)
    go true e x c view = absurd c
    go false e x c view =
        ap (λ (m : Machine). replied_to (reply.Value (Some v)) m.kept more m.calls) view
        ∙ ap (λ b. cond b (On (put h.0 more h.1 h.2 h.3 (v ∷ h.4) h.5)) (Halts (Faulted StackHeap))) e

-- a push continues, faults or runs out of memory
pub push_only : (n : Machine) (s : Step) (q : Running) → Comes (checked n) s q → (s ≡ steps.NoMemory → ⊥)
    → (s ≡ steps.Goes → ⊥) → ((x : Fault) → s ≡ steps.Faults x → ⊥) → ⊥
push_only n s q c lacks goes faults = go (is_within n.kept (used_in n.calls n.kept)) s c lacks goes faults where
  go : (b : Bool) (s : Step) → Comes (cond b (On n) (Halts (Faulted StackHeap))) s q → (s ≡ steps.NoMemory → ⊥)
      → (s ≡ steps.Goes → ⊥) → ((x : Fault) → s ≡ steps.Faults x → ⊥) → ⊥
  go b steps.NoMemory c lacks goes faults = lacks refl
  go b steps.Goes c lacks goes faults = goes refl
  go b (steps.Faults x) c lacks goes faults = faults x refl
  go true s c lacks goes faults = c
  go false s c lacks goes faults = c

answer_fits : (result : Option Kind) (given : Option Value) → option_map kind_of given ≡ result
    → is_answer_to result (reply.Value given) ≡ true
answer_fits None None e = refl
answer_fits (Some k) (Some v) e = refl
answer_fits None (Some v) e = absurd cc
answer_fits (Some k) None e = absurd cc

-- the run of the machine with its answer
pub runs_answered : (bodies : List Body) (id : BuiltinId) (given : Option Value) (old new : Machine) (s : Standing)
    (t : ℕ) (more : List Reply)
    → Answers id (reply.Value given) → IsReady s
    → replied_to (reply.Value given) old.kept more old.calls ≡ went s more new
    → halt_from (standing.Asking id) bodies old t (reply.Value given ∷ more) ≡ halt_from s bodies new t more
runs_answered bodies id given old new s t more fits ready e =
    let yes : is_answered_by id (reply.Value given) ≡ true = answer_fits (row_of id).result given fits in
    ap (λ b. cond b (run_on bodies t (replied_to (reply.Value given) old.kept more old.calls)) (Over Lost)) yes
    ∙ ap (run_on bodies t) e ∙ on_ready s ready
  where
    on_ready : (s : Standing) → IsReady s → run_on bodies t (went s more new) ≡ halt_from s bodies new t more
    on_ready standing.Ready r = refl
    on_ready standing.Full r = refl
    on_ready s r = absurd r

pub of_answered : (unit : Code) (id : BuiltinId) (given : Option Value) (old new : Machine) (s : Standing)
    → Answers id (reply.Value given) → IsReady s
    → replied_to (reply.Value given) old.kept [] old.calls ≡ went s [] new → IsIn unit (standing.Asking id) old
    → IsIn unit s new
of_answered unit id given old new standing.Ready fits ready e k =
    let told : IsKindedNext (kinds_of unit.globals) (length unit.states) (bodies_of unit)
    (On (with_answers [] new)) =
    subst (IsKindedNext (kinds_of unit.globals) (length unit.states) (bodies_of unit)) e (k given fits) in
    record { kept = told.kept; calls = told.calls }
of_answered unit id given old new standing.Full fits ready e k = tt
of_answered unit id given old new s fits ready e k = absurd ready

-- a machine that wants an answer has asked
pub has_asked : (s : Standing) (given : Option Value) → Wants s given → (id : BuiltinId) × (s ≡ standing.Asking id)
    × Answers id (reply.Value given)
has_asked (standing.Asking id) given w = (id, refl, w)
has_asked s given w = absurd w

pub ready_runs : (s : Standing) → IsReady s → CanRun s
ready_runs standing.Ready r = tt
ready_runs standing.Full r = tt
ready_runs s r = absurd r

pub ready_passes_none : (s : Standing) → IsReady s → ticks_passed s ≡ 0
ready_passes_none standing.Ready r = refl
ready_passes_none standing.Full r = refl
ready_passes_none s r = absurd r
