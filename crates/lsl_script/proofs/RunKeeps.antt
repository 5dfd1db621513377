-- What each step keeps, a run keeps up to where it halts.
use Rattle.std.proofs.Common.{◌≡◌, ℕ, zero, suc, ◌<◌, ◌≤◌, List, refl, sym, subst, arith}
use Rattle.lsl_value.specs.declared.names.BuiltinId.{BuiltinId}
use Rattle.lsl_value.specs.declared.tagged.Value.{Value}
use Rattle.lsl_code.specs.Bodies.{Body}
use Rattle.lsl_code.specs.Forward.{Forward}
use Rattle.lsl_code.specs.Machine.{Machine, End, Next, On, Pauses, Halts, Passing, Waiting, step}
use Rattle.lsl_code.specs.Runs.{Halt, Over, AskAt, CutAt, on, passed, run}
use Rattle.lsl_code.proofs.Ranks.{left}
use Rattle.lsl_code.proofs.Running.{Falls, step_falls, run_law}

module _ (P : Machine → Type 0) (E : End → Type 0) where
  -- the result of one step
  abbrev pub Kept : Next → Type 0
  Kept (On m) = P m
  Kept (Pauses (Passing m)) = P m
  Kept (Pauses (Waiting id args)) = Unit {0}
  Kept (Halts e) = E e

  module _ (bodies : List Body) where
    -- where a run halts
    abbrev pub KeptAt : Halt → Type 0
    KeptAt (Over e) = E e
    KeptAt (AskAt id args m t) = P m × (step bodies m ≡ Pauses (Waiting id args))
    KeptAt (CutAt m) = P m × (next : Machine) × (step bodies m ≡ Pauses (Passing next))

    module _ (forward : Forward bodies) (keeps : (m : Machine) → P m → Kept (step bodies m)) where
      module _ (t : ℕ)
          (at_tick : (m next : Machine) → P m → step bodies m ≡ Pauses (Passing next) → KeptAt (passed bodies t m
          (Passing next)))
        where
          waiting : (t : ℕ) (m : Machine) (id : BuiltinId) (args : List Value) → P m
              → step bodies m ≡ Pauses (Waiting id args) → KeptAt (passed bodies t m (Waiting id args))
          waiting zero m id args p e = (p, e)
          waiting (suc t) m id args p e = (p, e)

          on_kept : (m : Machine) (y : Next) → P m → step bodies m ≡ y → Falls bodies (left bodies m) y → Kept y
              → ((next : Machine) → left bodies next < left bodies m → P next → KeptAt (run bodies t next))
              → KeptAt (on y (passed bodies t m) (run bodies t))
          on_kept m (On next) p e falls k go = go next falls k
          on_kept m (Pauses (Passing next)) p e falls k go = at_tick m next p e
          on_kept m (Pauses (Waiting id args)) p e falls k go = waiting t m id args p e
          on_kept m (Halts x) p e falls k go = k

          stretch : (n : ℕ) (m : Machine) → left bodies m ≤ n → P m → KeptAt (run bodies t m)
          stretch zero m le p =
              subst KeptAt (sym (run_law bodies forward t m))
              (on_kept m (step bodies m) p refl (step_falls bodies forward m) (keeps m p)
              (λ next lt q. absurd (omega arith)))
          stretch (suc n) m le p =
              subst KeptAt (sym (run_law bodies forward t m))
              (on_kept m (step bodies m) p refl (step_falls bodies forward m) (keeps m p)
              (λ next lt q. stretch n next (omega arith) q))

      pub run_keeps : (t : ℕ) (m : Machine) → P m → KeptAt (run bodies t m)
      run_keeps zero m p = stretch zero (λ m next p e. (p, next, e)) (left bodies m) m (omega arith) p
      run_keeps (suc t) m p =
          stretch (suc t) (λ m next p e. run_keeps t next (subst Kept e (keeps m p))) (left bodies m) m (omega arith) p
