-- Ticks that are passed one after another.
use Rattle.std.proofs.Common.{◌≡◌, ◌∙◌, ℕ, ◌+◌, ◌<◌, List, refl, sym, ap, subst, arith}
use Rattle.lsl_running.specs.declared.host.Reply.{Reply}
use Rattle.lsl_code.specs.declared.woven_units.Woven.{Woven as Code}
use Rattle.lsl_code.specs.Runs.{on, passed, run}
use Rattle.lsl_code.specs.Standing.{IsChain}
use Rattle.lsl_code.proofs.Running.{run_law}
use Rattle.lsl_machine.specs.declared.running.Running.{Running}
use Rattle.lsl_machine.specs.declared.standing.Standing.{Standing}
use Rattle.lsl_machine.specs.declared.standing.Standing.TheVariants as standing
use Rattle.lsl_machine.specs.Futures.{StandsCut, halt_from}
use Rattle.lsl_machine.specs.Laid.{machine_of, state_of}
use Rattle.lsl_machine.specs.Passing.{NoTick, OneMore, PassesTick, PassesTicks}
use Rattle.lsl_machine.specs.Racing.{Nowhere, Onward, PassesMany, PassesOne}
use Rattle.lsl_machine.specs.State.{IsChained, IsChainedAt, IsOf, State, StandsAtTick, bodies_of}
use Rattle.lsl_machine.proofs.Moving.{well_formed}

-- before a tick the run is cut
pub stands_cut : (unit : Code) (r : Running) → StandsAtTick (bodies_of unit) (machine_of r)
    → StandsCut (bodies_of unit) (state_of r standing.AtTick)
stands_cut unit r tick =
    let m = machine_of r in
    run_law (bodies_of unit) (well_formed unit).forward 0 m
    ∙ ap (λ y. on y (passed (bodies_of unit) 0 m) (run (bodies_of unit) 0)) tick.1

module _ (unit : Code) (handler : ℕ) where
  many_chained : (n : ℕ) (r q : Running) → PassesMany unit n r q
      → IsChain (bodies_of unit) handler (machine_of r).calls → IsChain (bodies_of unit) handler (machine_of q).calls
  many_chained n r q (Nowhere s) chain = chain
  many_chained n r q (Onward k s p t before one) chain = one.chained handler (many_chained k s p before chain)

  -- to a tick
  to_tick : (p q : Running) → PassesOne unit p q → IsChain (bodies_of unit) handler (machine_of p).calls
      → StandsAtTick (bodies_of unit) (machine_of q)
      → PassesTick unit (state_of p standing.AtTick) (state_of q standing.AtTick)
  to_tick p q one chain tick = record {
    stands = refl;
    runs = one.path;
    cut = λ e. stands_cut unit q tick;
    silent = refl;
    of = ((one.kinded, tick), one.reserved, (handler, one.chained handler chain));
    chained = one.chained;
    memory = λ e. absurd cc;
  }

  -- and to where it continues
  on_from : (p q : Running) → PassesOne unit p q → IsChain (bodies_of unit) handler (machine_of p).calls
      → PassesTick unit (state_of p standing.AtTick) (state_of q standing.Ready)
  on_from p q one chain = record {
    stands = refl;
    runs = one.path;
    cut = λ e. absurd cc;
    silent = refl;
    of = (one.kinded, one.reserved, (handler, one.chained handler chain));
    chained = one.chained;
    memory = λ e none. one.memory none;
  }

  pub many_to_tick : (n : ℕ) (r q : Running) → PassesMany unit n r q
      → IsChain (bodies_of unit) handler (machine_of r).calls → StandsAtTick (bodies_of unit) (machine_of q)
      → PassesTicks unit n (state_of r standing.AtTick) (state_of q standing.AtTick)
  many_to_tick n r q (Nowhere s) chain tick = NoTick (state_of s standing.AtTick)
  many_to_tick n r q (Onward k s p t before one) chain tick =
      OneMore k (state_of s standing.AtTick) (state_of p standing.AtTick) (state_of t standing.AtTick)
      (many_to_tick k s p before chain one.stands) (to_tick p t one (many_chained k s p before chain) tick)

  pub many_on : (n : ℕ) (r q : Running) → PassesMany unit n r q → 0 < n
      → IsChain (bodies_of unit) handler (machine_of r).calls
      → PassesTicks unit n (state_of r standing.AtTick) (state_of q standing.Ready)
  many_on n r q (Nowhere s) some chain = absurd (omega (arith, some))
  many_on n r q (Onward k s p t before one) some chain =
      OneMore k (state_of s standing.AtTick) (state_of p standing.AtTick) (state_of t standing.Ready)
      (many_to_tick k s p before chain one.stands) (on_from p t one (many_chained k s p before chain))

-- the result of a machine, n ticks later
pub ticks_run : (unit : Code) (n : ℕ) (s t : State) → PassesTicks unit n s t → (more : ℕ) (a : List Reply)
    → halt_from s.standing (bodies_of unit) s.machine (n + more) a
    ≡ halt_from t.standing (bodies_of unit) t.machine more a
ticks_run unit n s t (NoTick u) more a =
    let e : 0 + more ≡ more = omega arith in
    ap (λ (x : ℕ). halt_from u.standing (bodies_of unit) u.machine x a) e
ticks_run unit n s t (OneMore k u v w before one) more a =
    let e : k + 1 + more ≡ k + (1 + more) = omega arith in
    ap (λ (x : ℕ). halt_from u.standing (bodies_of unit) u.machine x a) e ∙ ticks_run unit k u v before (1 + more) a
    ∙ one.runs more a

pub ticks_chained : (unit : Code) (n : ℕ) (s t : State) → PassesTicks unit n s t → (handler : ℕ)
    → IsChained (bodies_of unit) handler s → IsChained (bodies_of unit) handler t
ticks_chained unit n s t (NoTick u) handler chain = chain
ticks_chained unit n s t (OneMore k u v w before one) handler chain =
    one.chained handler (ticks_chained unit k u v before handler chain)

pub ticks_of : (unit : Code) (n : ℕ) (s t : State) → PassesTicks unit n s t → IsOf unit s → IsOf unit t
ticks_of unit n s t (NoTick u) of = of
ticks_of unit n s t (OneMore k u v w before one) of = one.of

ticks_none : (unit : Code) (n : ℕ) (s t : State) → PassesTicks unit n s t → n ≡ 0 → s ≡ t
ticks_none unit n s t (NoTick u) e = refl
ticks_none unit n s t (OneMore k u v w before one) e = absurd (omega (arith, e))

-- one tick
pub ticks_one : (unit : Code) (n : ℕ) (s t : State) → PassesTicks unit n s t → n ≡ 1 → PassesTick unit s t
ticks_one unit n s t (NoTick u) e = absurd (omega (arith, e))
ticks_one unit n s t (OneMore k u v w before one) e =
    let none : k ≡ 0 = omega (arith, e) in
    subst (λ (x : State). PassesTick unit x w) (sym (ticks_none unit k u v before none)) one

-- a machine at a tick
module _ (unit : Code) (r q : Running) (z : Standing) (old : State) (view : state_of r z ≡ old)
    (stands : old.standing ≡ standing.AtTick) (of : IsOf unit old) (n : ℕ) (many : PassesMany unit n r q) where
  stood : z ≡ standing.AtTick
  stood = ap (λ (s : State). s.standing) view ∙ stands

  first : state_of r standing.AtTick ≡ old
  first = ap (λ z. state_of r z) (sym stood) ∙ view

  chain : IsChain (bodies_of unit) of.2.0 (machine_of r).calls
  chain =
      subst (λ z. IsChainedAt (bodies_of unit) of.2.0 z (machine_of r)) stood
      (subst (λ (s : State). IsChained (bodies_of unit) of.2.0 s) (sym view) of.2.1)

  pub states_to_tick : StandsAtTick (bodies_of unit) (machine_of q) → PassesTicks unit n old (state_of q z)
  states_to_tick tick =
      subst (λ z. PassesTicks unit n old (state_of q z)) (sym stood)
      (subst (λ (s : State). PassesTicks unit n s (state_of q standing.AtTick)) first
      (many_to_tick unit of.2.0 n r q many chain tick))

  pub states_on : 0 < n → PassesTicks unit n old (state_of q standing.Ready)
  states_on some =
      subst (λ (s : State). PassesTicks unit n s (state_of q standing.Ready)) first
      (many_on unit of.2.0 n r q many some chain)
