-- A run continues from where it halted.
use Rattle.std.proofs.Common.{◌≡◌, ℕ, zero, suc, ◌+◌, ◌<◌, ◌≤◌, List, refl, sym, ap, ◌∙◌, arith}
use Rattle.lsl_value.specs.declared.names.BuiltinId.{BuiltinId}
use Rattle.lsl_value.specs.declared.tagged.Value.{Value}
use Rattle.lsl_code.specs.Bodies.{Body}
use Rattle.lsl_code.specs.Machine.{Machine, Passing, Waiting, Next, On, Pauses, Halts, step}
use Rattle.lsl_code.specs.Runs.{AskAt, on, run, passed}
use Rattle.lsl_code.specs.Forward.{Forward}
use Rattle.lsl_code.specs.Laws.{after_ticks, MoreTicks}
use Rattle.lsl_code.proofs.Running.{Falls, step_falls, run_law}
use Rattle.lsl_code.proofs.Ranks.{left}

module _ (bodies : List Body) (forward : Forward bodies) where
  module _ (t u k : ℕ) (same : u ≡ t + k)
      (tick_same : (m next : Machine) → step bodies m ≡ Pauses (Passing next) → passed bodies u m
      (Passing next) ≡ after_ticks bodies k (passed bodies t m (Passing next)))
    where
      waiting_same : (t u : ℕ) (m : Machine) (id : BuiltinId) (args : List Value) → u ≡ t + k
          → passed bodies u m (Waiting id args) ≡ after_ticks bodies k (passed bodies t m (Waiting id args))
      waiting_same zero zero m id args e = ap (AskAt id args m) e
      waiting_same zero (suc u) m id args e = ap (AskAt id args m) e
      waiting_same (suc t) zero m id args e = absurd (omega arith)
      waiting_same (suc t) (suc u) m id args e = ap (AskAt id args m) e

      on_case : (m : Machine) (x : Next) → step bodies m ≡ x → Falls bodies (left bodies m) x
          → ((next : Machine) → left bodies next < left bodies m → run bodies u next ≡ after_ticks bodies k
          (run bodies t next))
          → on x (passed bodies u m) (run bodies u) ≡ after_ticks bodies k (on x (passed bodies t m) (run bodies t))
      on_case m (On next) e falls go = go next falls
      on_case m (Pauses (Passing next)) e falls go = tick_same m next e
      on_case m (Pauses (Waiting id args)) e falls go = waiting_same t u m id args same
      on_case m (Halts x) e falls go = refl

      stretch : (n : ℕ) (m : Machine) → left bodies m ≤ n → run bodies u m ≡ after_ticks bodies k (run bodies t m)
      stretch zero m le =
          run_law bodies forward u m
          ∙ on_case m (step bodies m) refl (step_falls bodies forward m) (λ next lt. absurd (omega arith))
          ∙ sym (ap (after_ticks bodies k) (run_law bodies forward t m))
      stretch (suc n) m le =
          run_law bodies forward u m
          ∙ on_case m (step bodies m) refl (step_falls bodies forward m) (λ next lt. stretch n next (omega arith))
          ∙ sym (ap (after_ticks bodies k) (run_law bodies forward t m))

  -- a run with more ticks is the run with fewer, continued from where it was cut
  pub ticks_law : (t u k : ℕ) (m : Machine) → u ≡ t + k → run bodies u m ≡ after_ticks bodies k (run bodies t m)
  ticks_law zero u k m e = stretch zero u k e cut_same (left bodies m) m (omega arith)
    where
      cut_same : (m next : Machine) → step bodies m ≡ Pauses (Passing next)
          → passed bodies u m (Passing next) ≡ run bodies k m
      cut_same m next d =
          let z : u ≡ k = omega arith in
          ap (λ n. passed bodies n m (Passing next)) z
          ∙ sym (run_law bodies forward k m ∙ ap (λ x. on x (passed bodies k m) (run bodies k)) d)
  ticks_law (suc t) zero k m e = absurd (omega arith)
  ticks_law (suc t) (suc u) k m e =
      stretch (suc t) (suc u) k e (λ m next d. ticks_law t u k next (omega arith)) (left bodies m) m (omega arith)

pub more_ticks : MoreTicks
more_ticks bodies forward t k m = ticks_law bodies forward t (t + k) k m refl
