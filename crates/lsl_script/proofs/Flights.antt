-- A handler in flight: where it is cut or asks its machine has no answers left, and all kinds are right.
use Rattle.std.proofs.Common.{◌≡◌, ℕ, ◌+◌, List, [], ◌∷◌, ◌++◌, Bool, true, false, cond, Option, None, Some, length, refl, sym, ap, ◌∙◌, subst, append_assoc}
use Rattle.lsl_value.specs.declared.names.BuiltinId.{BuiltinId}
use Rattle.lsl_value.specs.declared.tagged.Value.{Value}
use Rattle.lsl_running.specs.declared.ends.Fault.TheVariants.{StackHeap}
use Rattle.lsl_running.specs.declared.host.Reply.{Reply}
use Rattle.lsl_running.specs.declared.host.Reply.TheVariants as reply
use Rattle.lsl_running.specs.declared.kept.Kept.{Kept}
use Rattle.lsl_running.specs.Calling.{is_answered_by}
use Rattle.lsl_running.specs.Charging.{is_within}
use Rattle.lsl_running.specs.Results as whole
use Rattle.lsl_running.specs.Results.{ActiveCall, Whole}
use Rattle.lsl_code.specs.declared.instructions.Instr.{Instr}
use Rattle.lsl_code.specs.declared.instructions.Instr.TheVariants.{Host}
use Rattle.lsl_code.specs.declared.woven_units.Woven.{Woven as Code}
use Rattle.lsl_code.specs.Acts.{Did, Goes, Jumps, Enters, Leaves, Passes, Asks, Ends, Fails, Stuck, act}
use Rattle.lsl_code.specs.Bodies.{Body, instruction_at}
use Rattle.lsl_code.specs.Kinded.{Answers, IsAnsweredIn, IsKindedEnd, IsKindedMachine, IsKindedNext}
use Rattle.lsl_code.specs.Kinds.{kinds_of}
use Rattle.lsl_code.specs.Laws.{after_answers, with_answers}
use Rattle.lsl_code.specs.Machine.{MachineCall, Machine, End, Ended, Faulted, Lost, Passing, Waiting, Next, On, Pauses, Halts, after, base, checked, done_by, left_to, put, replied, step, step_in, used_in}
use Rattle.lsl_code.specs.Runs.{Halt, Over, AskAt, CutAt, on, passed, run}
use Rattle.lsl_code.specs.Wholes.{told}
use Rattle.lsl_code.proofs.Further.{more_answers}
use Rattle.lsl_code.proofs.Running.{run_law}
use Rattle.lsl_machine.specs.State.{bodies_of}
use Rattle.lsl_script.specs.Lawful.{AreGiven, NoneGiven, OneGiven}
use Rattle.lsl_script.proofs.RunKeeps.{Kept as KeptBy, KeptAt, run_keeps}
use Rattle.lsl_script.proofs.Units.{sound}

-- no answers are left after a step
abbrev Silent : Next → Type 0
Silent (On m) = m.answers ≡ []
Silent (Pauses (Passing m)) = m.answers ≡ []
Silent (Pauses (Waiting id args)) = Unit {0}
Silent (Halts e) = Unit {0}

checked_silent : (m : Machine) → m.answers ≡ [] → Silent (checked m)
checked_silent m e =
    elim (is_within m.kept (used_in m.calls m.kept)) as (λ b. Silent (cond b (On m) (Halts (Faulted StackHeap))))
    [ true ↦ e | false ↦ tt ]

left_silent : (outer : List MachineCall) (g : Kept) (given : Option Value) → Silent (left_to outer g [] given)
left_silent [] g given = tt
left_silent (c ∷ outer) g None = refl
left_silent (c ∷ outer) g (Some v) = checked_silent (put g [] c.function c.place c.slots (v ∷ c.operands) outer) refl

after_silent : (d : Did) (g : Kept) (f place : ℕ) (sl ops : List Value) (outer : List MachineCall)
    → Silent (after d g [] f place sl ops outer)
after_silent (Goes sl' ops' g') g f place sl ops outer = refl
after_silent (Jumps to ops') g f place sl ops outer = refl
after_silent (Enters j ns rest) g f place sl ops outer = refl
after_silent (Leaves given) g f place sl ops outer = left_silent outer g given
after_silent Passes g f place sl ops outer = refl
after_silent (Asks id args rest) g f place sl ops outer = tt
after_silent (Ends way) g f place sl ops outer = tt
after_silent (Fails fault) g f place sl ops outer = tt
after_silent Stuck g f place sl ops outer = tt

step_silent : (bodies : List Body) (g : Kept) (calls : List MachineCall) → Silent (step_in bodies g [] calls)
step_silent bodies g [] = tt
step_silent bodies g (c ∷ outer) =
    after_silent (act bodies (instruction_at bodies c.function c.place) g (base outer) c.slots c.operands) g c.function
    c.place c.slots c.operands outer

-- the step that takes the only answer leaves none, and isn't a pause
abbrev Answered : Next → Type 0
Answered (On m) = m.answers ≡ []
Answered (Pauses x) = ⊥
Answered (Halts e) = Unit {0}

checked_answered : (m : Machine) → m.answers ≡ [] → Answered (checked m)
checked_answered m e =
    elim (is_within m.kept (used_in m.calls m.kept)) as (λ b. Answered (cond b (On m) (Halts (Faulted StackHeap))))
    [ true ↦ e | false ↦ tt ]

replied_answered : (r : Reply) (g : Kept) (f place : ℕ) (sl rest : List Value) (outer : List MachineCall)
    → Answered (replied r g [] f place sl rest outer)
replied_answered (reply.Value (Some v)) g f place sl rest outer =
    checked_answered (put g [] f place sl (v ∷ rest) outer) refl
replied_answered (reply.Value None) g f place sl rest outer = refl
replied_answered (reply.Stop fault) g f place sl rest outer = tt

waited_cond : (b : Bool) (x : Next) → Answered x → Answered (cond b x (Halts Lost))
waited_cond true x h = h
waited_cond false x h = tt

no_wait : (m : Machine) (id : BuiltinId) (args : List Value) → checked m ≡ Pauses (Waiting id args) → ⊥
no_wait m id args = go (is_within m.kept (used_in m.calls m.kept)) where
  go : (b : Bool) → cond b (On m) (Halts (Faulted StackHeap)) ≡ Pauses (Waiting id args) → ⊥
  go true e = cc
  go false e = cc

left_waits : (outer : List MachineCall) (g : Kept) (given : Option Value) (id : BuiltinId) (args : List Value)
    → left_to outer g [] given ≡ Pauses (Waiting id args) → ⊥
left_waits [] g given id args e = cc
left_waits (c ∷ outer) g None id args e = cc
left_waits (c ∷ outer) g (Some v) id args e =
    no_wait (put g [] c.function c.place c.slots (v ∷ c.operands) outer) id args e

after_waited : (d : Did) (r : Reply) (g : Kept) (f place : ℕ) (sl ops : List Value) (outer : List MachineCall)
    (id : BuiltinId) (args : List Value) → after d g [] f place sl ops outer ≡ Pauses (Waiting id args)
    → Answered (after d g (r ∷ []) f place sl ops outer)
after_waited (Goes sl' ops' g') r g f place sl ops outer id args e = absurd cc
after_waited (Jumps to ops') r g f place sl ops outer id args e = absurd cc
after_waited (Enters j ns rest) r g f place sl ops outer id args e = absurd cc
after_waited (Leaves given) r g f place sl ops outer id args e = absurd (left_waits outer g given id args e)
after_waited Passes r g f place sl ops outer id args e = absurd cc
after_waited (Asks asked wanted rest) r g f place sl ops outer id args e =
    waited_cond (is_answered_by asked r) (replied r g [] f (place + 1) sl rest outer)
    (replied_answered r g f (place + 1) sl rest outer)
after_waited (Ends way) r g f place sl ops outer id args e = tt
after_waited (Fails fault) r g f place sl ops outer id args e = tt
after_waited Stuck r g f place sl ops outer id args e = tt

step_waited : (bodies : List Body) (r : Reply) (g : Kept) (calls : List MachineCall) (id : BuiltinId)
    (args : List Value)
    → step_in bodies g [] calls ≡ Pauses (Waiting id args) → Answered (step_in bodies g (r ∷ []) calls)
step_waited bodies r g [] id args e = tt
step_waited bodies r g (c ∷ outer) id args e =
    after_waited (act bodies (instruction_at bodies c.function c.place) g (base outer) c.slots c.operands) r g
    c.function c.place c.slots c.operands outer id args e

-- the machine waits for the answer to its next instruction
asked_here : (bodies : List Body) (g : Kept) (c : MachineCall) (outer : List MachineCall) (asked id : BuiltinId)
    (args : List Value) (o : Option Instr) → o ≡ Some (Host asked)
    → done_by bodies o g [] c.function c.place c.slots c.operands outer ≡ Pauses (Waiting id args) → asked ≡ id
asked_here bodies g c outer asked id args o e waits =
    let w : done_by bodies (Some (Host asked)) g [] c.function c.place c.slots c.operands outer
    ≡ Pauses (Waiting id args) =
    subst (λ i. done_by bodies i g [] c.function c.place c.slots c.operands outer ≡ Pauses (Waiting id args)) e waits in
    cc

answered_here : (bodies : List Body) (g : Kept) (calls : List MachineCall) (id : BuiltinId) (args : List Value)
    (r : Reply)
    → step_in bodies g [] calls ≡ Pauses (Waiting id args) → Answers id r → IsAnsweredIn bodies calls (r ∷ [])
answered_here bodies g [] id args r waits fits = tt
answered_here bodies g (c ∷ outer) id args r waits fits = λ asked given more here is.
    let same = asked_here bodies g c outer asked id args (instruction_at bodies c.function c.place) here waits in
    let one : r ≡ given = cc in
    subst (λ x. Answers x given) (sym same) (subst (Answers id) one fits)

answered_none : (bodies : List Body) (calls : List MachineCall) (answers : List Reply) → answers ≡ []
    → IsAnsweredIn bodies calls answers
answered_none bodies [] answers e = tt
answered_none bodies (c ∷ outer) answers e = λ id r more here is. absurd cc

pub told_asks : (bodies : List Body) (h : Halt) (id : BuiltinId) (args : List Value) → told bodies h
    ≡ whole.Asks id args
    → (m : Machine) × (left : ℕ) × (h ≡ AskAt id args m left)
told_asks bodies (Over (Ended way kept)) id args e = absurd cc
told_asks bodies (Over (Faulted fault)) id args e = absurd cc
told_asks bodies (Over Lost) id args e = absurd cc
told_asks bodies (AskAt asked wanted m left) id args e =
    let a : asked ≡ id = cc in
    let b : wanted ≡ args = cc in
    (m, left, ap (λ x. AskAt x wanted m left) a ∙ ap (λ x. AskAt id x m left) b)
told_asks bodies (CutAt m) id args e = absurd cc

pub told_cut : (bodies : List Body) (h : Halt) (calls : List ActiveCall) → told bodies h ≡ whole.Cut calls
    → (m : Machine) × (h ≡ CutAt m)
told_cut bodies (Over (Ended way kept)) calls e = absurd cc
told_cut bodies (Over (Faulted fault)) calls e = absurd cc
told_cut bodies (Over Lost) calls e = absurd cc
told_cut bodies (AskAt asked wanted m left) calls e = absurd cc
told_cut bodies (CutAt m) calls e = (m, refl)

module _ (unit : Code) where
  abbrev bodies : List Body
  bodies = bodies_of unit

  abbrev pub Quiet : Machine → Type 0
  Quiet m = IsKindedMachine (kinds_of unit.globals) (bodies_of unit) m × (m.answers ≡ [])

  abbrev pub QuietEnd : End → Type 0
  QuietEnd e = IsKindedEnd (kinds_of unit.globals) (length unit.states) e

  both : (x : Next) → IsKindedNext (kinds_of unit.globals) (length unit.states) bodies x → Silent x
      → KeptBy Quiet QuietEnd x
  both (On m) k s = (k, s)
  both (Pauses (Passing m)) k s = (k, s)
  both (Pauses (Waiting id args)) k s = tt
  both (Halts e) k s = k

  quiet_step : (m : Machine) → Quiet m → KeptBy Quiet QuietEnd (step bodies m)
  quiet_step m q =
      both (step bodies m) ((sound unit).steps m q.0 (answered_none bodies m.calls m.answers q.1))
      (subst (λ a. Silent (step_in bodies m.kept a m.calls)) (sym q.1) (step_silent bodies m.kept m.calls))

  pub quiet_keeps : (t : ℕ) (m : Machine) → Quiet m → KeptAt Quiet QuietEnd (bodies_of unit) (run (bodies_of unit) t m)
  quiet_keeps t m q = run_keeps Quiet QuietEnd bodies (sound unit).forward quiet_step t m q

  on_answered : (t : ℕ) (m : Machine) (y : Next) → IsKindedNext (kinds_of unit.globals) (length unit.states) bodies y
      → Answered y → KeptAt Quiet QuietEnd bodies (on y (passed bodies t m) (run bodies t))
  on_answered t m (On next) k s = quiet_keeps t next (k, s)
  on_answered t m (Pauses x) k s = absurd s
  on_answered t m (Halts e) k s = k

  -- continues with an answer that was waited for
  pub answered_keeps : (t : ℕ) (m : Machine) (id : BuiltinId) (args : List Value) (r : Reply) → Quiet m
      → step (bodies_of unit) m ≡ Pauses (Waiting id args) → Answers id r
      → KeptAt Quiet QuietEnd (bodies_of unit) (run (bodies_of unit) t (with_answers (r ∷ []) m))
  answered_keeps t m id args r q waits fits =
      let waits' : step_in bodies m.kept [] m.calls ≡ Pauses (Waiting id args) =
      subst (λ a. step_in bodies m.kept a m.calls ≡ Pauses (Waiting id args)) q.1 waits in
      let n : Machine = record { kept = m.kept; calls = m.calls; answers = r ∷ [] } in
      let same : with_answers (r ∷ []) m ≡ n =
      ap {A = List Reply} {B = Machine} (λ a. record { kept = m.kept; calls = m.calls; answers = a ++ r ∷ [] }) q.1 in
      let k = (sound unit).steps n (record { kept = q.0.kept; calls = q.0.calls })
      (answered_here bodies m.kept m.calls id args r waits' fits) in
      subst (λ x. KeptAt Quiet QuietEnd bodies (run bodies t x)) (sym same)
      (subst (KeptAt Quiet QuietEnd bodies) (sym (run_law bodies (sound unit).forward t n))
      (on_answered t n (step bodies n) k (step_waited bodies r m.kept m.calls id args waits')))

  module _ (m0 : Machine) (quiet : Quiet m0) (t : ℕ) where
    -- a run with answers to its own calls keeps all kinds right, and no answer is left where it halts
    pub given_keeps : (answers : List Reply)
        → AreGiven (λ a. told (bodies_of unit) (run (bodies_of unit) t (with_answers a m0))) answers
        → KeptAt Quiet QuietEnd (bodies_of unit) (run (bodies_of unit) t (with_answers answers m0))
    given_keeps answers NoneGiven =
        quiet_keeps t (with_answers [] m0) (
          record { kept = quiet.0.kept; calls = quiet.0.calls },
          ap
              (λ (a : List Reply). a ++ []) quiet.1,
        )
    given_keeps answers (OneGiven before r id args given asks fits) =
        let h = told_asks bodies (run bodies t (with_answers before m0)) id args asks in
        let k : KeptAt Quiet QuietEnd bodies (AskAt id args h.0 h.1) =
        subst (KeptAt Quiet QuietEnd bodies) h.2 (given_keeps before given) in
        let more : run bodies t (with_answers (before ++ r ∷ []) m0) ≡ run bodies h.1 (with_answers (r ∷ []) h.0) =
        ap {A = List Reply} (λ a. run bodies t (record { kept = m0.kept; calls = m0.calls; answers = a }))
        (sym (append_assoc m0.answers before (r ∷ [])))
        ∙ more_answers bodies (sound unit).forward t (r ∷ []) (with_answers before m0)
        ∙ ap (after_answers bodies (r ∷ [])) h.2 in
        subst (KeptAt Quiet QuietEnd bodies) (sym more) (answered_keeps h.1 h.0 id args r k.0 k.1 fits)
