-- Steps, one after another.
use Rattle.std.proofs.Common.{◌≡◌, ℕ, zero, suc, ◌+◌, ◌≤◌, Option, Some, None, refl, sym, ap, ◌∙◌, arith, subst}
use Rattle.std.specs.Prelude.{option_and_then}
use Rattle.std.proofs.lemmas.Option.{none-some}
use Rattle.lsl_code.specs.Modes.{repeat}

-- a first step, and then more
pub first_then : {S : Type 0} (step : S → Option S) (n : ℕ) (s t : S) (u : Option S) → step s ≡ Some t
    → repeat step n t ≡ u → repeat step (suc n) s ≡ u
first_then step n s t u e r = ap (option_and_then (repeat step n)) e ∙ r

-- what holds of each run of m steps holds after a step
split_run : {S : Type 0} (step : S → Option S) (m n : ℕ) (t : S) (u : Option S)
    → ((s : S) → repeat step m s ≡ Some t → repeat step (m + n) s ≡ u) → (o : Option S)
    → option_and_then (repeat step m) o ≡ Some t → option_and_then (repeat step (m + n)) o ≡ u
split_run step m n t u h None a = cc
split_run step m n t u h (Some s) a = h s a

pub both_then : {S : Type 0} (step : S → Option S) (m n : ℕ) (s t : S) (u : Option S)
    → repeat step m s ≡ Some t → repeat step n t ≡ u → repeat step (m + n) s ≡ u
both_then step zero n s t u a b =
    let e : s ≡ t = cc in
    let z : zero + n ≡ n = omega arith in
    subst (λ k. repeat step k s ≡ u) (sym z) (subst (λ v. repeat step n v ≡ u) (sym e) b)
both_then step (suc m) n s t u a b =
    let z : suc m + n ≡ suc (m + n) = omega arith in
    subst (λ k. repeat step k s ≡ u) (sym z)
    (split_run step m n t u (λ s' a'. both_then step m n s' t u a' b) (step s) a)

repeat_one : {S : Type 0} (step : S → Option S) (t : S) (o u : Option S) → step t ≡ o → o ≡ u
    → repeat step 1 t ≡ u
repeat_one step t None u e f = ap (option_and_then (repeat step 0)) e ∙ f
repeat_one step t (Some v) u e f = ap (option_and_then (repeat step 0)) e ∙ f

-- one more step at the end
pub then_one : {S : Type 0} (step : S → Option S) (n : ℕ) (s t : S) (u : Option S) → repeat step n s ≡ Some t
    → step t ≡ u → repeat step (n + 1) s ≡ u
then_one step n s t u a b = both_then step n 1 s t u a (repeat_one step t (step t) u refl b)

none_again : {S : Type 0} (step : S → Option S) (n : ℕ) (s : S) (t : S) → step s ≡ None
    → repeat step (suc n) s ≡ Some t → ⊥
none_again step n s t e r = none-some t (sym (ap (option_and_then (repeat step n)) e) ∙ r)

here_is : {S : Type 0} (s t : S) → Some s ≡ Some t → s ≡ t
here_is s t e = cc

one_behind : {S : Type 0} (step : S → Option S) (m n : ℕ) (t u : S)
    → ((v : S) → repeat step m v ≡ Some t → repeat step n v ≡ Some u → (m ≡ n) × (t ≡ u)) → (o : Option S)
    → option_and_then (repeat step m) o ≡ Some t → option_and_then (repeat step n) o ≡ Some u
    → (suc m ≡ suc n) × (t ≡ u)
one_behind step m n t u h None a b = absurd (none-some t a)
one_behind step m n t u h (Some v) a b = let r = h v a b in (ap suc r.0, r.1)

no_longer_behind : {S : Type 0} (step : S → Option S) (k n : ℕ) (t u : S)
    → ((v : S) → repeat step k v ≡ Some t → repeat step n v ≡ Some u → k ≤ n) → (o : Option S)
    → option_and_then (repeat step k) o ≡ Some t → option_and_then (repeat step n) o ≡ Some u → k ≤ n
no_longer_behind step k n t u h None a b = absurd (none-some t a)
no_longer_behind step k n t u h (Some v) a b = h v a b

-- a run that has ended is the only one, and no run is longer
pub one_end : {S : Type 0} (step : S → Option S) (m n : ℕ) (s t u : S) → repeat step m s ≡ Some t
    → step t ≡ None → repeat step n s ≡ Some u → step u ≡ None → (m ≡ n) × (t ≡ u)
one_end step zero zero s t u a over b over' = (refl, sym (here_is s t a) ∙ here_is s u b)
one_end step zero (suc n) s t u a over b over' =
    absurd (none_again step n s u (ap step (here_is s t a) ∙ over) b)
one_end step (suc m) zero s t u a over b over' =
    absurd (none_again step m s t (ap step (here_is s u b) ∙ over') a)
one_end step (suc m) (suc n) s t u a over b over' =
    one_behind step m n t u (λ v x y. one_end step m n v t u x over y over') (step s) a b

-- a run is at most as long as the one that has ended
pub no_longer : {S : Type 0} (step : S → Option S) (k n : ℕ) (s t u : S) → repeat step k s ≡ Some t
    → repeat step n s ≡ Some u → step u ≡ None → k ≤ n
no_longer step zero n s t u a b over = omega arith
no_longer step (suc k) zero s t u a b over = absurd (none_again step k s t (ap step (here_is s u b) ∙ over) a)
no_longer step (suc k) (suc n) s t u a b over =
    omega (arith, no_longer_behind step k n t u (λ v x y. no_longer step k n v t u x y over) (step s) a b)
