-- Machines at ticks: at the start of a handler, and where a run is cut.
use Rattle.std.proofs.Common.{◌≡◌, ℕ, ◌+◌, List, [], ◌∷◌, ◌++◌, Bool, true, false, cond, Option, None, Some, refl, sym, ap, ◌∙◌, subst, slice_get}
use Rattle.lsl_value.specs.declared.tagged.Value.{Value}
use Rattle.lsl_running.specs.declared.ends.Fault.TheVariants.{StackHeap}
use Rattle.lsl_running.specs.declared.host.Reply.{Reply}
use Rattle.lsl_running.specs.declared.kept.Kept.{Kept}
use Rattle.lsl_running.specs.Charging.{is_within, script_charge, used}
use Rattle.lsl_code.specs.declared.instructions.Instr.{Instr}
use Rattle.lsl_code.specs.declared.instructions.Instr.TheVariants.{Tick, TestSave, TestBack}
use Rattle.lsl_code.specs.Acts.{Did, Goes, Jumps, Enters, Leaves, Passes, Asks, Ends, Fails, Stuck, act, first_slots}
use Rattle.lsl_code.specs.Bodies.{Body, instruction_at}
use Rattle.lsl_code.specs.Forward.{Forward, begins, is_tick}
use Rattle.lsl_code.specs.Laws.{after_answers, after_ticks, with_answers}
use Rattle.lsl_code.specs.Machine.{MachineCall, Machine, Ended, Faulted, Lost, Passing, On, Pauses, Halts, after, base, checked, done_by, left_to, put, step_in, used_in}
use Rattle.lsl_code.specs.Runs.{Halt, Over, AskAt, CutAt, on, passed, run}
use Rattle.lsl_code.specs.Standing.{IsAtTick}
use Rattle.lsl_code.specs.Wholes.{begun, run_of, started}
use Rattle.lsl_code.proofs.Acts.{By, act_by}
use Rattle.lsl_code.proofs.Further.{more_answers}
use Rattle.lsl_code.proofs.Resuming.{more_ticks}
use Rattle.lsl_code.proofs.Running.{run_law}

checked_passes : (m next : Machine) → checked m ≡ Pauses (Passing next) → ⊥
checked_passes m next = go (is_within m.kept (used_in m.calls m.kept)) where
  go : (b : Bool) → cond b (On m) (Halts (Faulted StackHeap)) ≡ Pauses (Passing next) → ⊥
  go true e = cc
  go false e = cc

left_passes : (outer : List MachineCall) (g : Kept) (given : Option Value) (next : Machine)
    → left_to outer g [] given ≡ Pauses (Passing next) → ⊥
left_passes [] g given next e = cc
left_passes (c ∷ outer) g None next e = cc
left_passes (c ∷ outer) g (Some v) next e =
    checked_passes (put g [] c.function c.place c.slots (v ∷ c.operands) outer) next e

passes_by : (bodies : List Body) (i : Instr) (d : Did) (g : Kept) (f place : ℕ) (sl ops : List Value)
    (outer : List MachineCall) (next : Machine) → By bodies i d → after d g [] f place sl ops outer
    ≡ Pauses (Passing next)
    → (p : ℕ) × (i ≡ Tick p)
passes_by bodies i (Goes sl' ops' g') g f place sl ops outer next by e = absurd cc
passes_by bodies i (Jumps to ops') g f place sl ops outer next by e = absurd cc
passes_by bodies i (Enters j ns rest) g f place sl ops outer next by e = absurd cc
passes_by bodies i (Leaves given) g f place sl ops outer next by e = absurd (left_passes outer g given next e)
passes_by bodies i Passes g f place sl ops outer next by e = by
passes_by bodies i (Asks id args rest) g f place sl ops outer next by e = absurd cc
passes_by bodies i (Ends way) g f place sl ops outer next by e = absurd cc
passes_by bodies i (Fails fault) g f place sl ops outer next by e = absurd cc
passes_by bodies i Stuck g f place sl ops outer next by e = absurd cc

passes_in : (bodies : List Body) (g : Kept) (c : MachineCall) (outer : List MachineCall) (next : Machine)
    (o : Option Instr)
    → instruction_at bodies c.function c.place ≡ o
    → done_by bodies o g [] c.function c.place c.slots c.operands outer ≡ Pauses (Passing next)
    → (p : ℕ) × (instruction_at bodies c.function c.place ≡ Some (Tick p))
passes_in bodies g c outer next None is e = absurd cc
passes_in bodies g c outer next (Some i) is e =
    let t = passes_by bodies i (act bodies (Some i) g (base outer) c.slots c.operands) g c.function c.place c.slots
    c.operands outer next (act_by bodies i g (base outer) c.slots c.operands) e in
    (t.0, is ∙ ap Some t.1)

-- what passes a tick is at one
pub at_tick : (bodies : List Body) (g : Kept) (calls : List MachineCall) (next : Machine)
    → step_in bodies g [] calls ≡ Pauses (Passing next) → IsAtTick bodies calls
at_tick bodies g [] next e = absurd cc
at_tick bodies g (c ∷ outer) next e =
    passes_in bodies g c outer next (instruction_at bodies c.function c.place) refl e

-- before its first tick no handler ends or asks
abbrev pub NotEarly : Halt → Type 0
NotEarly (Over (Ended way kept)) = ⊥
NotEarly (Over (Faulted fault)) = Unit {0}
NotEarly (Over Lost) = Unit {0}
NotEarly (AskAt id args m t) = ⊥
NotEarly (CutAt m) = Unit {0}

module _ (bodies : List Body) (forward : Forward bodies) (f : ℕ) (kept : Kept) where
  stands_early : (place : ℕ) (slots ops : List Value) (o : Option Instr) → instruction_at bodies f place ≡ o
      → is_tick o ≡ true → NotEarly (run bodies 0 (put kept [] f place slots ops []))
  stands_early place slots ops (Some (Tick p)) is tick =
      subst NotEarly (sym (run_law bodies forward 0 (put kept [] f place slots ops [])
      ∙ ap (λ i. on (done_by bodies i kept [] f place slots ops []) (passed bodies 0 (put kept [] f place slots ops []))
      (run bodies 0)) is)) tt
  stands_early place slots ops o is tick = absurd cc

  begins_early : (slots : List Value) (o next : Option Instr) → instruction_at bodies f 0 ≡ o
      → instruction_at bodies f 1 ≡ next → begins o next ≡ true → NotEarly (run bodies 0 (begun f kept slots []))
  begins_early slots (Some (TestSave to)) next is later tick =
      subst NotEarly (sym (run_law bodies forward 0 (begun f kept slots [])
      ∙ ap (λ i. on (done_by bodies i kept [] f 0 slots [] []) (passed bodies 0 (begun f kept slots []))
      (run bodies 0)) is))
      (stands_early 1 slots [] next later tick)
  begins_early slots (Some (TestBack to)) next is later tick =
      subst NotEarly (sym (run_law bodies forward 0 (begun f kept slots [])
      ∙ ap (λ i. on (done_by bodies i kept [] f 0 slots [] []) (passed bodies 0 (begun f kept slots []))
      (run bodies 0)) is))
      (stands_early 1 slots [] next later tick)
  begins_early slots o next is later tick = stands_early 0 slots [] o is tick

  started_early : (o : Option Body) (args : List Value) → slice_get bodies f ≡ o
      → NotEarly (started o bodies f kept args 0 [])
  started_early None args there = tt
  started_early (Some body) args there =
      within_early (is_within kept (used script_charge (first_slots body args) kept))
      (begins_early (first_slots body args) (instruction_at bodies f 0) (instruction_at bodies f 1) refl refl
      (forward.starts f body there))
    where
      within_early : (b : Bool) → NotEarly (run bodies 0 (begun f kept (first_slots body args) []))
          → NotEarly (cond b (run bodies 0 (begun f kept (first_slots body args) [])) (Over (Faulted StackHeap)))
      within_early true h = h
      within_early false h = tt

  pub not_early : (args : List Value) → NotEarly (run_of bodies f kept args 0 [])
  not_early args = started_early (slice_get bodies f) args refl

-- a handler's run continues from where it is cut
module _ (bodies : List Body) (forward : Forward bodies) (f : ℕ) (kept : Kept) (m : Machine) (t k : ℕ)
    (answers more : List Reply)
  where
    within_resumes : (slots : List Value) (b : Bool)
        → cond b (run bodies t (begun f kept slots answers)) (Over (Faulted StackHeap)) ≡ CutAt m
        → cond b (run bodies (t + k) (begun f kept slots (answers ++ more))) (Over (Faulted StackHeap))
        ≡ run bodies k (with_answers more m)
    within_resumes slots true e =
        more_answers bodies forward (t + k) more (begun f kept slots answers)
        ∙ ap (after_answers bodies more) (more_ticks bodies forward t k (begun f kept slots answers)
        ∙ ap (after_ticks bodies k) e)
        ∙ sym (more_answers bodies forward k more m)
    within_resumes slots false e = absurd cc

    started_resumes : (o : Option Body) (args : List Value) → started o bodies f kept args t answers ≡ CutAt m
        → started o bodies f kept args (t + k) (answers ++ more) ≡ run bodies k (with_answers more m)
    started_resumes None args e = absurd cc
    started_resumes (Some body) args e =
        within_resumes (first_slots body args) (is_within kept (used script_charge (first_slots body args) kept)) e

    pub resumes : (args : List Value) → run_of bodies f kept args t answers ≡ CutAt m
        → run_of bodies f kept args (t + k) (answers ++ more) ≡ run bodies k (with_answers more m)
    resumes args e = started_resumes (slice_get bodies f) args e
