-- A run that ends continues from each state on its way.
use Rattle.std.proofs.Common.{◌≡◌, ◌∙◌, refl, sym, ap, subst, arith, ℕ, zero, suc, ◌+◌, ◌≤◌, Option, Some, None}
use Rattle.std.specs.Prelude.{option_and_then, option_map}
use Rattle.std.proofs.lemmas.Option.{none-some}
use Rattle.lsl_code.specs.Modes.{repeat}
use Rattle.lsl_code.specs.ModeRuns.{Beside, Whole, whole, step_beside}
use Rattle.lsl_code.proofs.ModeRuns.{runs_beside}

same_state : {S : Type 0} (s t : S) → Some s ≡ Some t → s ≡ t
same_state s t e = cc

left_behind : {S : Type 0} (step : S → Option S) (m n : ℕ) (t u : S)
    → ((s : S) → repeat step m s ≡ Some t → repeat step n s ≡ Some u → (rest : ℕ) × (n ≡ m + rest)
    × (repeat step rest t ≡ Some u)) → (o : Option S) → option_and_then (repeat step m) o ≡ Some t
    → option_and_then (repeat step n) o ≡ Some u → (rest : ℕ) × (suc n ≡ suc m + rest)
    × (repeat step rest t ≡ Some u)
left_behind step m n t u h None a b = absurd (none-some t a)
left_behind step m n t u h (Some s) a b = let r = h s a b in (r.0, let e = r.1 in omega arith, r.2)

-- what is left of a run after its first m steps
pub left_over : {S : Type 0} (step : S → Option S) (m n : ℕ) (s t u : S) → repeat step m s ≡ Some t
    → repeat step n s ≡ Some u → step u ≡ None → (rest : ℕ) × (n ≡ m + rest) × (repeat step rest t ≡ Some u)
left_over step zero n s t u a b over =
    (n, omega arith, subst (λ x. repeat step n x ≡ Some u) (same_state s t a) b)
left_over step (suc m) zero s t u a b over =
    let stops = ap step (same_state s u b) ∙ over in
    absurd (none-some t (sym (ap (option_and_then (repeat step m)) stops) ∙ a))
left_over step (suc m) (suc n) s t u a b over =
    left_behind step m n t u (λ v x y. left_over step m n v t u x y over) (step s) a b

further : {S : Type 0} (step : S → Option S) (k : ℕ) (u : S) (o : Option S)
    → option_and_then (repeat step k) o ≡ Some u → (v : S) × (o ≡ Some v)
further step k u None e = absurd (none-some u e)
further step k u (Some v) e = (v, refl)

-- where the end isn't reached yet there is a step
pub next_there : {S : Type 0} (step : S → Option S) (m n : ℕ) (s t u : S) → repeat step m s ≡ Some t
    → repeat step n s ≡ Some u → step u ≡ None → (t ≡ u → ⊥) → (v : S) × (step t ≡ Some v) × (m + 1 ≤ n)
next_there {S = S} step m n s t u a b over differs =
    let r = left_over step m n s t u a b over in by_rest r.0 r.1 r.2
  where
    by_rest : (k : ℕ) → n ≡ m + k → repeat step k t ≡ Some u → (v : S) × (step t ≡ Some v) × (m + 1 ≤ n)
    by_rest zero e c = absurd (differs (same_state t u c))
    by_rest (suc k) e c = let f = further step k u (step t) c in (f.0, f.1, omega arith)

alone_by : {S : Type 0} (x y : Beside) (o : Option S) (t : S) → option_map (whole x) o ≡ Some (whole y t)
    → o ≡ Some t
alone_by x y None t e = absurd (none-some (whole y t) e)
alone_by {S = S} x y (Some s) t e =
    let same : whole x s ≡ whole y t = cc in
    ap {A = Whole S} {B = Option S} (λ w. Some w.part) same

-- a run beside something is a run
pub alone : {S : Type 0} (step : S → Option S) (n : ℕ) (x y : Beside) (s t : S)
    → repeat (step_beside step) n (whole x s) ≡ Some (whole y t) → repeat step n s ≡ Some t
alone step n x y s t e = alone_by x y (repeat step n s) t (sym (runs_beside step n x s) ∙ e)
