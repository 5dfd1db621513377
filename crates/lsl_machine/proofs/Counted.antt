-- Charges of the slots that a way still keeps, and of those to which it puts no value.
use Rattle.std.proofs.Common.{◌≡◌, ◌≢◌, ◌∙◌, refl, ap, arith, ℕ, zero, suc, ◌+◌, ◌<◌, true, false, cond, nat_eq, List, [], ◌∷◌, length, Some, slice_set}
use Rattle.std.specs.Prelude.{slice_get}
use Rattle.std.proofs.lemmas.Bool.Decides.{nat_tests}
use Rattle.std.proofs.lemmas.List.Sums.{sum_by-cons}
use Rattle.lsl_value.specs.declared.tagged.Value.{Value}
use Rattle.lsl_value.specs.Values.{charge_of}
use Rattle.lsl_running.specs.Charging.{charges_of}

pub one_more : (v : Value) (vs : List Value) → charges_of (v ∷ vs) ≡ charge_of v + charges_of vs
one_more v vs = sum_by-cons charge_of v vs

-- the charge of the slots that are counted, the first of which has the number k
abbrev pub due : (ℕ → ℕ) → ℕ → List Value → ℕ
due c k [] = 0
due c k (v ∷ vs) = cond (nat_eq (c k) 0) 0 (charge_of v) + due c (suc k) vs

-- and those that are not
abbrev pub idle : (ℕ → ℕ) → ℕ → List Value → ℕ
idle c k [] = 0
idle c k (v ∷ vs) = cond (nat_eq (c k) 0) (charge_of v) 0 + idle c (suc k) vs

-- slot m is counted once more
abbrev pub once_more : (ℕ → ℕ) → ℕ → ℕ → ℕ
once_more c m k = cond (nat_eq k m) (suc (c k)) (c k)

is_same : (k m : ℕ) → k ≡ m → nat_eq k m ≡ true
is_same k m e = grind (arith, nat_tests)

pub differs : (k m : ℕ) → k ≢ m → nat_eq k m ≡ false
differs k m e = grind (arith, nat_tests)

not_none : (n : ℕ) → nat_eq (suc n) 0 ≡ false
not_none n = differs (suc n) 0 (λ e. let z : suc n ≡ 0 = e in omega arith)

pub counted_here : (c : ℕ → ℕ) (m k : ℕ) → k ≡ m → once_more c m k ≡ suc (c k)
counted_here c m k e = ap (λ b. cond b (suc (c k)) (c k)) (is_same k m e)

pub counted_there : (c : ℕ → ℕ) (m k : ℕ) → k ≢ m → once_more c m k ≡ c k
counted_there c m k e = ap (λ b. cond b (suc (c k)) (c k)) (differs k m e)

due_past : (c : ℕ → ℕ) (m k : ℕ) (vs : List Value) → m < k → due (once_more c m) k vs ≡ due c k vs
due_past c m k [] lt = refl
due_past c m k (v ∷ vs) lt =
    ap (λ n. cond (nat_eq n 0) 0 (charge_of v) + due (once_more c m) (suc k) vs)
    (counted_there c m k (omega arith))
    ∙ ap (λ n. cond (nat_eq (c k) 0) 0 (charge_of v) + n) (due_past c m (suc k) vs (omega arith))

-- a slot that is counted once more, and not otherwise
pub due_more : (c : ℕ → ℕ) (m k i : ℕ) (v : Value) (vs : List Value) → slice_get vs i ≡ Some v → m ≡ k + i
    → c m ≡ 0 → due (once_more c m) k vs ≡ charge_of v + due c k vs
due_more c m k i v [] e at none = absurd cc
due_more c m k zero v (x ∷ vs) e at none =
    let here : k ≡ m = omega arith in
    let same : x ≡ v = cc in
    let a = ap (λ n. cond (nat_eq n 0) 0 (charge_of x)) (counted_here c m k here)
    ∙ ap (λ b. cond b 0 (charge_of x)) (not_none (c k)) in
    let b = ap (λ n. cond (nat_eq n 0) 0 (charge_of x)) (ap c here ∙ none) in
    let q = ap charge_of same in
    let d = due_past c m (suc k) vs (omega arith) in
    omega arith
due_more c m k (suc i) v (x ∷ vs) e at none =
    let a = ap (λ n. cond (nat_eq n 0) 0 (charge_of x)) (counted_there c m k (omega arith)) in
    let d = due_more c m (suc k) i v vs e (omega arith) none in
    omega arith

pub due_none : (k : ℕ) (vs : List Value) → due (λ n. 0) k vs ≡ 0
due_none k [] = refl
due_none k (v ∷ vs) = let d = due_none (suc k) vs in omega arith

-- each slot is counted once
pub due_all : (c : ℕ → ℕ) (k : ℕ) (vs : List Value) → ((i : ℕ) → i < length vs → c (k + i) ≡ 1)
    → due c k vs ≡ charges_of vs
due_all c k [] once = refl
due_all c k (v ∷ vs) once =
    let a = ap (λ n. cond (nat_eq n 0) 0 (charge_of v)) (ap c (plus_zero k) ∙ once 0 (omega arith)) in
    let d = due_all c (suc k) vs (λ i lt. ap c (plus_suc k i) ∙ once (suc i) (omega arith)) in
    let m = one_more v vs in
    omega arith
  where
    plus_zero : (k : ℕ) → k ≡ k + 0
    plus_zero k = omega arith

    plus_suc : (k i : ℕ) → suc k + i ≡ k + suc i
    plus_suc k i = omega arith

idle_past : (c : ℕ → ℕ) (m k : ℕ) (vs : List Value) → m < k → idle (once_more c m) k vs ≡ idle c k vs
idle_past c m k [] lt = refl
idle_past c m k (v ∷ vs) lt =
    ap (λ n. cond (nat_eq n 0) (charge_of v) 0 + idle (once_more c m) (suc k) vs)
    (counted_there c m k (omega arith))
    ∙ ap (λ n. cond (nat_eq (c k) 0) (charge_of v) 0 + n) (idle_past c m (suc k) vs (omega arith))

-- a value put to a slot that is counted once more, and not otherwise
pub idle_more : (c : ℕ → ℕ) (m k i : ℕ) (v : Value) (vs : List Value) → i < length vs → m ≡ k + i → c m ≡ 0
    → idle c k (slice_set vs i v) ≡ charge_of v + idle (once_more c m) k vs
idle_more c m k i v [] lt at none = absurd (omega arith)
idle_more c m k zero v (x ∷ vs) lt at none =
    let here : k ≡ m = omega arith in
    let a = ap (λ n. cond (nat_eq n 0) (charge_of x) 0) (counted_here c m k here)
    ∙ ap (λ b. cond b (charge_of x) 0) (not_none (c k)) in
    let b = ap (λ n. cond (nat_eq n 0) (charge_of v) 0) (ap c here ∙ none) in
    let d = idle_past c m (suc k) vs (omega arith) in
    omega arith
idle_more c m k (suc i) v (x ∷ vs) lt at none =
    let a = ap (λ n. cond (nat_eq n 0) (charge_of x) 0) (counted_there c m k (omega arith)) in
    let d = idle_more c m (suc k) i v vs (omega arith) (omega arith) none in
    omega arith

pub idle_none : (k : ℕ) (vs : List Value) → idle (λ n. 0) k vs ≡ charges_of vs
idle_none k [] = refl
idle_none k (v ∷ vs) = let m = one_more v vs in let d = idle_none (suc k) vs in omega arith

pub idle_all : (c : ℕ → ℕ) (k : ℕ) (vs : List Value) → ((i : ℕ) → i < length vs → c (k + i) ≡ 1)
    → idle c k vs ≡ 0
idle_all c k [] once = refl
idle_all c k (v ∷ vs) once =
    let a = ap (λ n. cond (nat_eq n 0) (charge_of v) 0) (ap c (plus_zero k) ∙ once 0 (omega arith)) in
    let d = idle_all c (suc k) vs (λ i lt. ap c (plus_suc k i) ∙ once (suc i) (omega arith)) in
    omega arith
  where
    plus_zero : (k : ℕ) → k ≡ k + 0
    plus_zero k = omega arith

    plus_suc : (k i : ℕ) → suc k + i ≡ k + suc i
    plus_suc k i = omega arith
