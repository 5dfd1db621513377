-- What one instruction results in, and the tests and ticks of an evaluation.
use Rattle.std.proofs.Common.{◌≡◌, ℕ, zero, suc, ◌+◌, ◌≤◌, List, [], ◌∷◌, Bool, true, false, cond, Option, Some, None, refl, ap, ap₂, ◌∙◌, map, slice_get}
use Rattle.std.specs.Prelude.{is_some}
use Rattle.lsl_value.specs.Values.{charge_of}
use Rattle.lsl_value.specs.declared.names.BuiltinId.{BuiltinId}
use Rattle.lsl_value.specs.declared.tagged.Value.{Value}
use Rattle.lsl_running.specs.declared.ends.Fault.TheVariants.{StackHeap}
use Rattle.lsl_running.specs.declared.host.Reply.{Reply}
use Rattle.lsl_running.specs.declared.kept.Kept.{Kept}
use Rattle.lsl_running.specs.Charging.{hold_all, used, is_within}
use Rattle.lsl_running.specs.Results as whole
use Rattle.lsl_running.specs.Results.{ActiveCall, Whole}
use Rattle.lsl_meaning.specs.State.{State, Site, Evaluation, Gives, Stops, Flow, Normal, Returned, Jumped, give, give_result, tick}
use Rattle.lsl_meaning.specs.Expressions.{give_operation}
use Rattle.lsl_meaning.specs.Statements.{has_label}
use Rattle.lsl_code.specs.declared.instructions.Instr.{Instr}
use Rattle.lsl_code.specs.declared.instructions.Instr.TheVariants.{Tick, Return, ReturnValue}
use Rattle.lsl_code.specs.Acts.{Did, Goes, Fails, or_zero_divisor, gives, act}
use Rattle.lsl_code.specs.Bodies.{Body, instruction_at}
use Rattle.lsl_code.specs.Machine.{MachineCall, Machine, Faulted, Lost, Pause, Passing, Waiting, On, Halts, base, used_in, put, checked, left_to, after, step}
use Rattle.lsl_code.specs.Runs.{Halt, Over, on, passed, run}
use Rattle.lsl_code.specs.Wholes.{lines_in, seen, line_in, waiting_call, told}
use Rattle.lsl_gen.specs.declared.label_places.LabelPlace.{LabelPlace}
use Rattle.lsl_gen.specs.Statements.{place_of}
use Rattle.lsl_gen.proofs.Drafts.{act_seen}
use Rattle.lsl_gen.proofs.Simulations.{Sim, then_sim, Within}

-- the operands with a result, if there is one
abbrev pub pushed : Option Value → List Value → List Value
pushed None ops = ops
pushed (Some v) ops = v ∷ ops

-- a result is there exactly where one is given
abbrev pub Results : ℕ → Bool → Option Value → State → Type 0
Results n has o s = (s.ticks ≤ n) × (is_some o ≡ has)

-- how a statement ends in a routine that has a result or none, in blocks with these labels
abbrev pub Flows : ℕ → Bool → List ℕ → Flow → State → Type 0
Flows n has labels Normal s = s.ticks ≤ n
Flows n has labels (Returned o) s = (s.ticks ≤ n) × (is_some o ≡ has)
Flows n has labels (Jumped label) s = (suc s.ticks ≤ n) × (has_label labels label ≡ true)

-- what surrounds an evaluation in a call of function f, while these operands wait
abbrev pub site_of : List Body → ℕ → List MachineCall → List Value → Site
site_of bodies f outer ops =
    record { held = hold_all (base outer) ops; function = f; callers = map (waiting_call bodies) outer }

module _ (bodies : List Body) (law : (t : ℕ) (m : Machine)
    → run bodies t m ≡ on (step bodies m) (passed bodies t m) (run bodies t)) where
  module _ (f : ℕ) (outer : List MachineCall) where
    abbrev pub here : State → ℕ → List Value → Machine
    here s pc ops = put s.kept s.answers f pc s.slots ops outer

    -- the end of the run of a machine in this call
    abbrev pub at : State → ℕ → List Value → Whole
    at s pc ops = told bodies (run bodies s.ticks (here s pc ops))

    -- the end that an instruction's effect leads to
    abbrev pub led : State → ℕ → List Value → Did → Whole
    led s pc ops d =
        told bodies (on (after d s.kept s.answers f pc s.slots ops outer)
        (passed bodies s.ticks (here s pc ops)) (run bodies s.ticks))

    -- whatever is seen at this place
    pub any : (s : State) (pc : ℕ) (ops : List Value) (i : Option Instr) → seen bodies f pc ≡ i
        → at s pc ops ≡ led s pc ops (act bodies i s.kept (base outer) s.slots ops)
    any s pc ops i e =
        ap (told bodies) (law s.ticks (here s pc ops))
        ∙ ap (led s pc ops) (act_seen (lines_in (slice_get bodies f)) (instruction_at bodies f pc) bodies s.kept
        (base outer) s.slots ops
        ∙ ap (λ o. act bodies o s.kept (base outer) s.slots ops) e)

    -- one instruction
    pub one : (s : State) (pc : ℕ) (ops : List Value) (i : Instr) → seen bodies f pc ≡ Some i
        → at s pc ops ≡ led s pc ops (act bodies (Some i) s.kept (base outer) s.slots ops)
    one s pc ops i e = any s pc ops (Some i) e

    -- a value is pushed and the charge tested: r is the state before, s the one after the instruction
    within_sim : (b : Bool) (n pc q : ℕ) (r s : State) (from : List Value) (v : Value) (ops : List Value)
        → pc + 1 ≡ q → r.ticks ≡ s.ticks → r.answers ≡ s.answers → s.ticks ≤ n
        → Sim (Within n) (λ w t. at t q (w ∷ ops)) (cond b (Gives v s) (Stops (whole.Fails StackHeap)))
        (led r pc from (cond b (Goes s.slots (v ∷ ops) s.kept) (Fails StackHeap)))
    within_sim true n pc q r s from v ops e same rest le =
        record {
          eq = ap₂ (λ t a. told bodies (run bodies t (put s.kept a f (pc + 1) s.slots (v ∷ ops) outer)))
              same rest ∙ ap (λ p. at s p (v ∷ ops)) e;
          post = le;
        }
    within_sim false n pc q r s from v ops e same rest le = record { eq = refl; post = tt }

    pub give_sim : (n pc q : ℕ) (r s : State) (from : List Value) (v : Value) (ops : List Value)
        → pc + 1 ≡ q → r.ticks ≡ s.ticks → r.answers ≡ s.answers → s.ticks ≤ n
        → Sim (Within n) (λ w t. at t q (w ∷ ops)) (give v (site_of bodies f outer ops) s)
        (led r pc from (gives (base outer) s.slots (v ∷ ops) s.kept))
    give_sim n pc q r s from v ops e same rest le =
        within_sim (is_within s.kept (used (hold_all (base outer) ops + charge_of v) s.slots s.kept)) n pc q r s
        from v ops e same rest le

    pub operation_sim : (o : Option Value) (n pc q : ℕ) (s : State) (from ops : List Value) → pc + 1 ≡ q → s.ticks ≤ n
        → Sim (Within n) (λ w t. at t q (w ∷ ops)) (give_operation o (site_of bodies f outer ops) s)
        (led s pc from (or_zero_divisor o (λ v. gives (base outer) s.slots (v ∷ ops) s.kept)))
    operation_sim None n pc q s from ops e le = record { eq = refl; post = tt }
    operation_sim (Some v) n pc q s from ops e le = give_sim n pc q s s from v ops e refl refl le

    -- a value that is given as a call's result
    pub result_sim : (n q : ℕ) (v : Value) (ops : List Value) (s : State) (h : Whole)
        → Sim (Within n) (λ w t. at t q (w ∷ ops)) (give v (site_of bodies f outer ops) s) h
        → Sim (Results n true) (λ o t. at t q (pushed o ops)) (give_result (Some v) (site_of bodies f outer ops) s) h
    result_sim n q v ops s h m =
        then_sim (Within n) (Results n true) (λ w t. at t q (w ∷ ops)) (λ o t. at t q (pushed o ops))
        (give v (site_of bodies f outer ops) s) (λ w t. Gives (Some w) t) h m
        (λ w t le. record { eq = refl; post = (le, refl) })

    waits : (t : ℕ) (m : Machine) (id : BuiltinId) (args : List Value)
        → told bodies (passed bodies t m (Waiting id args)) ≡ whole.Asks id args
    waits zero m id args = refl
    waits (suc t) m id args = refl

    pub asked : (t : ℕ) (m : Machine) (id : BuiltinId) (args : List Value)
        → told bodies (passed bodies t m (Waiting id args)) ≡ whole.Asks id args
    asked t m id args = waits t m id args

    -- a tick passes, or none is left
    pub tick_sim : {A : Type 0} (P : A → State → Type 0) (k : A → State → Whole) (t line pc q : ℕ)
        (wait ops : List Value) (s : State) (go : State → Evaluation A)
        → seen bodies f pc ≡ Some (Tick line)
        → ((t' : ℕ) → t ≡ suc t' → Sim P k (go (record s { ticks = t' })) (at (record s { ticks = t' }) q ops))
        → Sim P k (tick t line (site_of bodies f outer wait) s go)
        (told bodies (passed bodies t (here s pc ops) (Passing (here s q ops))))
    tick_sim P k zero line pc q wait ops s go e next =
        record {
          eq = ap (λ l. whole.Cut (record { function = f; slots = s.slots; line = l } ∷ map
              (waiting_call bodies) outer)) (ap line_in e);
          post = tt;
        }
    tick_sim P k (suc t) line pc q wait ops s go e next = next t refl

    -- the call is left with this result: it is handed to the caller, or the run ends
    abbrev pub resume : State → Option Value → Whole
    resume s o = told bodies (on (left_to outer s.kept s.answers o) (λ next. Over Lost) (run bodies s.ticks))

    -- what a statement's end leads to: the place after it, the caller, or a label
    abbrev pub flow_at : List LabelPlace → ℕ → Flow → State → Whole
    flow_at labels q Normal s = at s q []
    flow_at labels q (Returned o) s = resume s o
    flow_at labels q (Jumped label) s = at s (place_of label labels) []

  checked_any : (b : Bool) (m : Machine) (after : Pause → Halt) (more : Machine → Halt)
      → on (cond b (On m) (Halts (Faulted StackHeap))) after more
      ≡ on (cond b (On m) (Halts (Faulted StackHeap))) (λ next. Over Lost) more
  checked_any true m after more = refl
  checked_any false m after more = refl

  left_any : (outer : List MachineCall) (g : Kept) (a : List Reply) (o : Option Value) (after : Pause → Halt)
      (more : Machine → Halt)
      → on (left_to outer g a o) after more ≡ on (left_to outer g a o) (λ next. Over Lost) more
  left_any [] g a o after more = refl
  left_any (c ∷ outer) g a None after more = refl
  left_any (c ∷ outer) g a (Some v) after more =
      let m = put g a c.function c.place c.slots (v ∷ c.operands) outer in
      checked_any (is_within g (used_in m.calls g)) m after more

  pub leave_value : (f : ℕ) (outer : List MachineCall) (s : State) (pc : ℕ) (v : Value) (ops : List Value)
      → seen bodies f pc ≡ Some ReturnValue
      → at f outer s pc (v ∷ ops) ≡ resume f outer s (Some v)
  leave_value f outer s pc v ops e =
      one f outer s pc (v ∷ ops) ReturnValue e
      ∙ ap (told bodies) (left_any outer s.kept s.answers (Some v)
      (passed bodies s.ticks (here f outer s pc (v ∷ ops))) (run bodies s.ticks))

  pub leave : (f : ℕ) (outer : List MachineCall) (s : State) (pc : ℕ) (ops : List Value)
      → seen bodies f pc ≡ Some Return
      → at f outer s pc ops ≡ resume f outer s None
  leave f outer s pc ops e =
      one f outer s pc ops Return e
      ∙ ap (told bodies) (left_any outer s.kept s.answers None (passed bodies s.ticks (here f outer s pc ops))
      (run bodies s.ticks))

  -- the machine continues with a value, and the charge is tested there
  back_sim : (b : Bool) (f : ℕ) (outer : List MachineCall) (n q q' : ℕ) (after : Pause → Halt) (t : State)
      (v : Value) (ops : List Value) → q ≡ q' → t.ticks ≤ n
      → Sim (Within n) (λ w u. at f outer u q' (w ∷ ops)) (cond b (Gives v t) (Stops (whole.Fails StackHeap)))
      (told bodies (on (cond b (On (here f outer t q (v ∷ ops))) (Halts (Faulted StackHeap))) after
      (run bodies t.ticks)))
  back_sim true f outer n q q' after t v ops e le = record { eq = ap (λ p. at f outer t p (v ∷ ops)) e; post = le }
  back_sim false f outer n q q' after t v ops e le = record { eq = refl; post = tt }

  -- the waiting operands receive a result
  pub received_sim : (f : ℕ) (outer : List MachineCall) (n q q' : ℕ) (after : Pause → Halt) (t : State)
      (v : Value) (ops : List Value) → q ≡ q' → t.ticks ≤ n
      → Sim (Results n true) (λ o u. at f outer u q' (pushed o ops))
      (give_result (Some v) (site_of bodies f outer ops) t)
      (told bodies (on (checked (here f outer t q (v ∷ ops))) after (run bodies t.ticks)))
  received_sim f outer n q q' after t v ops e le =
      result_sim f outer n q' v ops t _
      (back_sim (is_within t.kept (used (hold_all (base outer) ops + charge_of v) t.slots t.kept)) f outer n q
      q' after t v ops e le)
