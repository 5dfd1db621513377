-- Tables of places, entry by entry.
use Rattle.std.proofs.Common.{◌≡◌, ℕ, zero, suc, ◌+◌, ◌-◌, ◌<◌, ◌≤◌, List, [], ◌∷◌, ◌++◌, ⊎_elim, length, Some, refl, sym, ap, ◌∙◌, subst, arith, length-append}
use Rattle.std.specs.Prelude.{slice_get}
use Rattle.std.proofs.lemmas.Bool.{cases_lt}
use Rattle.lsl_weave.specs.Layout.{offset}
use Rattle.lsl_weave.specs.Tables.{IsTableTo, IsTable}
use Rattle.lsl_weave.proofs.Lift.{offset_none, offset_next}
use Rattle.lsl_weave.proofs.Running.{offset_past}

get_front : {A : Type 0} (xs ys : List A) (k : ℕ) → k < length xs → slice_get (xs ++ ys) k ≡ slice_get xs k
get_front [] ys k lt = absurd (omega arith)
get_front (x ∷ xs) ys zero lt = refl
get_front (x ∷ xs) ys (suc k) lt = get_front xs ys k (omega arith)

get_last : (xs : List ℕ) (k x : ℕ) → length xs ≡ k → slice_get (xs ++ x ∷ []) k ≡ Some x
get_last [] k x e = ap (slice_get (x ∷ [])) (sym e)
get_last (y ∷ xs) zero x e = absurd (omega arith)
get_last (y ∷ xs) (suc k) x e = get_last xs k x (omega (arith, e))

pub table_starts : {A : Type 0} (start : ℕ) (w : A → ℕ) (xs : List A) (table : List ℕ) → table ≡ start ∷ []
    → IsTableTo start w xs 0 table start
table_starts start w xs table e =
    let none : offset w xs 0 ≡ 0 = offset_none w xs in
    let z : start ≡ start + offset w xs 0 = omega (arith, none) in
    record {
      long = ap length e;
      at = λ k le. let zero_k : 0 ≡ k =
          omega arith in subst (λ n. slice_get table n ≡ Some (start + offset w xs n)) zero_k
          (ap (λ t. slice_get t 0) e ∙ ap Some z);
      sum_is = z;
    }

pub table_more : {A : Type 0} (start : ℕ) (w : A → ℕ) (xs : List A) (n : ℕ) (table table' : List ℕ)
    (sum sum' : ℕ) (x : A) → IsTableTo start w xs n table sum → slice_get xs n ≡ Some x → sum' ≡ sum + w x
    → table' ≡ table ++ sum' ∷ [] → IsTableTo start w xs (n + 1) table' sum'
table_more start w xs n table table' sum sum' x t e s l =
    let next : offset w xs (suc n) ≡ offset w xs n + w x = offset_next w xs n x e in
    let z : n + 1 ≡ suc n = omega arith in
    let all : sum' ≡ start + offset w xs (n + 1) = omega (arith, s, t.sum_is, next, ap (offset w xs) z) in
    record {
      long = omega (arith, ap length l, length-append table (sum' ∷ []), t.long);
      at = λ k le. ap (λ y. slice_get y k) l
          ∙ ⊎_elim (λ lt. get_front table (sum' ∷ []) k (omega (arith, t.long)) ∙ t.at k (omega arith))
          (λ ge. let last : k ≡ n + 1 = omega arith in get_last table k sum' (omega (arith, t.long))
          ∙ ap Some (all ∙ ap (λ m. start + offset w xs m) (sym last))) (cases_lt k (n + 1));
      sum_is = all;
    }

pub table_ends : {A : Type 0} (start : ℕ) (w : A → ℕ) (xs : List A) (n : ℕ) (table : List ℕ) (sum : ℕ)
    → IsTableTo start w xs n table sum → n ≡ length xs → IsTable start w xs table
table_ends start w xs n table sum t e =
    record { long = omega (arith, t.long); at = λ k le. t.at k (omega arith) }

-- what is found at a place
pub looks : {A : Type 0} (start : ℕ) (w : A → ℕ) (xs : List A) (table : List ℕ) (place r : ℕ)
    → IsTable start w xs table → (place < length table → slice_get table place ≡ Some r)
    → (length table ≤ place → slice_get table (length table - 1) ≡ Some r) → r ≡ start + offset w xs place
looks start w xs table place r t inside past =
    ⊎_elim
    (λ lt. let e : Some r ≡ Some (start + offset w xs place) = sym (inside lt)
    ∙ t.at place (omega (arith, t.long)) in cc)
    (λ ge. let z : length table - 1 ≡ length xs = omega (arith, t.long) in
    let e : Some r ≡ Some (start + offset w xs (length xs)) = sym (past ge) ∙ ap (slice_get table) z
    ∙ t.at (length xs) (omega arith) in
    let same : offset w xs place ≡ offset w xs (length xs) = offset_past w xs place (omega (arith, t.long)) in
    let r_is : r ≡ start + offset w xs (length xs) = cc in
    omega arith)
    (cases_lt place (length table))

-- the same for a table and a place that have other names
pub looks_at : {A : Type 0} (start : ℕ) (w : A → ℕ) (xs : List A) (table seen : List ℕ) (place at r : ℕ)
    → IsTable start w xs table → seen ≡ table → at ≡ place → (at < length seen → slice_get seen at ≡ Some r)
    → (length seen ≤ at → slice_get seen (length seen - 1) ≡ Some r) → r ≡ start + offset w xs place
looks_at start w xs table seen place at r t same here inside past =
    looks start w xs seen at r (subst (IsTable start w xs) (sym same) t) inside past
    ∙ ap (λ n. start + offset w xs n) here

pub table_long : {A : Type 0} (start : ℕ) (w : A → ℕ) (xs : List A) (table : List ℕ)
    → IsTable start w xs table → 0 < length table
table_long start w xs table t = omega (arith, t.long)
