-- Between two ticks each active call executes each of its instructions at most once, so a run makes few host calls.
use Rattle.std.proofs.Common.{◌≡◌, ℕ, zero, suc, ◌+◌, ◌*◌, ◌<◌, ◌≤◌, List, [], ◌∷◌, ◌++◌, Bool, true, false, cond, Option, None, Some, refl, sym, ap, ◌∙◌, subst, arith, length, length-append, slice_get}
use Rattle.std.proofs.Math.Nat.{suc-mul}
use Rattle.lsl_value.specs.declared.names.BuiltinId.{BuiltinId}
use Rattle.lsl_value.specs.declared.tagged.Value.{Value}
use Rattle.lsl_running.specs.declared.ends.Fault.TheVariants.{StackHeap}
use Rattle.lsl_running.specs.declared.host.Reply.{Reply}
use Rattle.lsl_running.specs.declared.kept.Kept.{Kept}
use Rattle.lsl_running.specs.Charging.{script_charge, used, is_within, default_limit}
use Rattle.lsl_code.specs.declared.instructions.Instr.{Instr}
use Rattle.lsl_code.specs.Bodies.{Body, instruction_at}
use Rattle.lsl_code.specs.Acts.{first_slots, act}
use Rattle.lsl_code.specs.Machine.{MachineCall, Machine, Faulted, Passing, Waiting, Next, On, Pauses, Halts, base, done_by, step_in, step}
use Rattle.lsl_code.specs.Runs.{Halt, Over, AskAt, CutAt, on, run, passed}
use Rattle.lsl_code.specs.Forward.{Forward}
use Rattle.lsl_code.specs.Laws.{after_ticks, with_answers, after_answers, hosts, hosts_of, AsksSoOften}
use Rattle.lsl_code.specs.Wholes.{begun, started}
use Rattle.lsl_code.proofs.Acts.{act_by}
use Rattle.lsl_code.proofs.Asked.{by_due}
use Rattle.lsl_code.specs.Asking.{code_of, due_of, due_in}
use Rattle.lsl_code.proofs.Due.{due_any}
use Rattle.lsl_code.proofs.FewCalls.{Few, FewNext, step_few}
use Rattle.lsl_code.proofs.Further.{Same, step_in_same, answers_law}
use Rattle.lsl_code.proofs.Keeping.{Keeps, after_keeps}
use Rattle.lsl_code.proofs.Ranks.{left}
use Rattle.lsl_code.proofs.Resuming.{ticks_law}
use Rattle.lsl_code.proofs.Running.{Falls, step_falls, run_law}

-- what can be asked in all calls
hosts_in : (bodies : List Body) (f : ℕ) → hosts (code_of (slice_get bodies f)) ≤ hosts_of bodies
hosts_in [] f = omega arith
hosts_in (body ∷ fns) zero = omega arith
hosts_in (body ∷ fns) (suc f) = let r = hosts_in fns f in omega arith

due_count : (bodies : List Body) (calls : List MachineCall) (k : ℕ) → length calls ≤ k
    → due_in bodies calls ≤ k * hosts_of bodies
due_count bodies [] k le = omega arith
due_count bodies (c ∷ outer) zero le = absurd (omega arith)
due_count bodies (c ∷ outer) (suc k) le =
    let a =
    due_any (instruction_at bodies c.function c.place) (instruction_at bodies c.function (c.place + 1))
    c.place (code_of (slice_get bodies c.function)) in
    let b = hosts_in bodies c.function in
    let r = due_count bodies outer k (omega arith) in
    let m = suc-mul k (hosts_of bodies) in
    omega arith

module _ (bodies : List Body) (forward : Forward bodies) where
  fetched_keeps : (g : Kept) (a : List Reply) (c : MachineCall) (outer : List MachineCall) (o : Option Instr)
      → instruction_at bodies c.function c.place ≡ o
      → due_of o (instruction_at bodies c.function (c.place + 1)) c.place (code_of (slice_get bodies c.function))
      + due_in bodies outer ≤ length a
      → Keeps bodies (done_by bodies o g a c.function c.place c.slots c.operands outer)
  fetched_keeps g a c outer None e all = tt
  fetched_keeps g a c outer (Some i) e all =
      after_keeps bodies _ (act bodies (Some i) g (base outer) c.slots c.operands) g a c.function c.place c.slots
      c.operands outer
      (by_due bodies forward c.function c.place i _ (act_by bodies i g (base outer) c.slots c.operands) e
      (forward.lands c.function c.place i e) (forward.behind c.function c.place i e))
      all

  step_keeps : (g : Kept) (a : List Reply) (calls : List MachineCall) → due_in bodies calls ≤ length a
      → Keeps bodies (step_in bodies g a calls)
  step_keeps g a [] all = tt
  step_keeps g a (c ∷ outer) all = fetched_keeps g a c outer (instruction_at bodies c.function c.place) refl all

  abbrev NoAsk : Halt → Type 0
  NoAsk (AskAt id vs m t) = ⊥
  NoAsk _ = Unit {0}

  on_keeps : (m : Machine) (y : Next) → Falls bodies (left bodies m) y → Keeps bodies y
      → ((next : Machine) → left bodies next < left bodies m → due_in bodies next.calls ≤ length next.answers
      → NoAsk (run bodies 0 next))
      → NoAsk (on y (passed bodies 0 m) (run bodies 0))
  on_keeps m (On next) falls keeps go = go next falls keeps
  on_keeps m (Pauses (Passing next)) falls keeps go = tt
  on_keeps m (Pauses (Waiting id args)) falls keeps go = absurd keeps
  on_keeps m (Halts e) falls keeps go = tt

  -- with enough answers a run doesn't ask before its next tick
  no_ask : (n : ℕ) (m : Machine) → left bodies m ≤ n → due_in bodies m.calls ≤ length m.answers
      → NoAsk (run bodies 0 m)
  no_ask zero m le all =
      subst NoAsk (sym (run_law bodies forward 0 m))
      (on_keeps m (step bodies m) (step_falls bodies forward m) (step_keeps m.kept m.answers m.calls all)
      (λ next lt keeps. absurd (omega arith)))
  no_ask (suc n) m le all =
      subst NoAsk (sym (run_law bodies forward 0 m))
      (on_keeps m (step bodies m) (step_falls bodies forward m) (step_keeps m.kept m.answers m.calls all)
      (λ next lt keeps. no_ask n next (omega arith) keeps))

  -- where a run is cut, the machine is at a tick, after which few calls are active
  abbrev CutOk : Halt → Type 0
  CutOk (CutAt m) = (next : Machine) × (step bodies m ≡ Pauses (Passing next)) × Few next
  CutOk _ = Unit {0}

  waits_ok : (t : ℕ) (m : Machine) (id : BuiltinId) (args : List Value) → CutOk (passed bodies t m (Waiting id args))
  waits_ok zero m id args = tt
  waits_ok (suc t) m id args = tt

  module _ (t : ℕ)
      (tick_ok : (m next : Machine) → step bodies m ≡ Pauses (Passing next) → Few next → CutOk
      (passed bodies t m (Passing next)))
    where
      on_few : (m : Machine) (y : Next) → step bodies m ≡ y → Falls bodies (left bodies m) y → FewNext y
          → ((next : Machine) → left bodies next < left bodies m → Few next → CutOk (run bodies t next))
          → CutOk (on y (passed bodies t m) (run bodies t))
      on_few m (On next) e falls few go = go next falls few
      on_few m (Pauses (Passing next)) e falls few go = tick_ok m next e few
      on_few m (Pauses (Waiting id args)) e falls few go = waits_ok t m id args
      on_few m (Halts x) e falls few go = tt

      few_stretch : (n : ℕ) (m : Machine) → left bodies m ≤ n → Few m → CutOk (run bodies t m)
      few_stretch zero m le few =
          subst CutOk (sym (run_law bodies forward t m))
          (on_few m (step bodies m) refl (step_falls bodies forward m)
          (step_few bodies m.kept m.answers m.calls few.0 few.1) (λ next lt few'. absurd (omega arith)))
      few_stretch (suc n) m le few =
          subst CutOk (sym (run_law bodies forward t m))
          (on_few m (step bodies m) refl (step_falls bodies forward m)
          (step_few bodies m.kept m.answers m.calls few.0 few.1)
          (λ next lt few'. few_stretch n next (omega arith) few'))

  cut_few : (t : ℕ) (m : Machine) → Few m → CutOk (run bodies t m)
  cut_few zero m few = few_stretch zero (λ m next e few. (next, e, few)) (left bodies m) m (omega arith) few
  cut_few (suc t) m few = few_stretch (suc t) (λ m next e few. cut_few t next few) (left bodies m) m (omega arith) few

  after_cut : (t : ℕ) (m at : Machine) (replies : List Reply) → Few m → run bodies t m ≡ CutAt at
      → 2048 * hosts_of bodies ≤ length replies → NoAsk (run bodies (suc t) (with_answers replies m))
  after_cut t m at replies few h le =
      let tick = subst CutOk h (cut_few t m few) in
      let next = tick.0 in
      let at' = with_answers replies at in
      let next' = with_answers replies next in
      let cut : run bodies t (with_answers replies m) ≡ CutAt at' =
      answers_law bodies replies forward t m ∙ ap (after_answers bodies replies) h in
      let one_more : suc t ≡ t + 1 = omega arith in
      let on_tick : step bodies at' ≡ Pauses (Passing next') =
      subst (λ y. Same bodies replies y (step bodies at')) tick.1
      (step_in_same bodies replies at.kept at.answers at.calls) in
      let enough : due_in bodies next.calls ≤ 2016 * hosts_of bodies = due_count bodies next.calls 2016 tick.2.0 in
      let whole : run bodies (suc t) (with_answers replies m) ≡ run bodies 0 next' =
      ticks_law bodies forward t (suc t) 1 (with_answers replies m) one_more
      ∙ ap (after_ticks bodies 1) cut
      ∙ run_law bodies forward 1 at'
      ∙ ap (λ y. on y (passed bodies 1 at') (run bodies 1)) on_tick in
      subst NoAsk (sym whole)
      (no_ask (left bodies next') next' (omega arith) (omega (arith, length-append next.answers replies)))

begun_asks : (bodies : List Body) (forward : Forward bodies) (f ticks : ℕ) (kept : Kept) (slots : List Value)
    (answers replies : List Reply) (at : Machine) (b : Bool) → kept.limit ≤ default_limit
    → cond b (run bodies ticks (begun f kept slots answers)) (Over (Faulted StackHeap)) ≡ CutAt at
    → 2048 * hosts_of bodies ≤ length replies
    → NoAsk bodies forward
    (cond b (run bodies (suc ticks) (begun f kept slots (answers ++ replies))) (Over (Faulted StackHeap)))
begun_asks bodies forward f ticks kept slots answers replies at true lim cut le =
    after_cut bodies forward ticks (begun f kept slots answers) at replies (omega arith, lim) cut le
begun_asks bodies forward f ticks kept slots answers replies at false lim cut le = absurd cc

started_asks : (bodies : List Body) (forward : Forward bodies) (o : Option Body) (f ticks : ℕ) (kept : Kept)
    (args : List Value) (answers replies : List Reply) (at : Machine) → kept.limit ≤ default_limit
    → started o bodies f kept args ticks answers ≡ CutAt at → 2048 * hosts_of bodies ≤ length replies
    → NoAsk bodies forward (started o bodies f kept args (suc ticks) (answers ++ replies))
started_asks bodies forward None f ticks kept args answers replies at lim cut le = absurd cc
started_asks bodies forward (Some body) f ticks kept args answers replies at lim cut le =
    let slots = first_slots body args in
    begun_asks bodies forward f ticks kept slots answers replies at
    (is_within kept (used script_charge slots kept)) lim cut le

pub asks_so_often : AsksSoOften
asks_so_often bodies forward f kept args ticks answers replies at cut lim le id asked m left e =
    subst (NoAsk bodies forward) e
    (started_asks bodies forward (slice_get bodies f) f ticks kept args answers replies at lim cut le)
