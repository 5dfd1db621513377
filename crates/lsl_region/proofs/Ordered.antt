-- Lists in strict order: the place of an element, and an element that is put in or taken out.
use Rattle.std.proofs.Common.{◌≡◌, ℕ, zero, suc, ◌+◌, ◌<◌, ◌≤◌, Bool, true, false, List, [], ◌∷◌, length, get_or, take, drop, refl, ap, sym, ◌∙◌, arith}
use Rattle.std.specs.Prelude.{◌||◌, ◌&&◌, not}
use Rattle.std.specs.Cmp.{IsTotalOrder}
use Rattle.std.specs.List.{AllByRecursion, AllWithin, insert, list_any, remove}
use Rattle.std.specs.List.Sorted.{IsNonDecreasingBy, IsStrictlySortedBy}
use Rattle.std.specs.Ordering.{eq_by_cmp, is_lt, ordering_index, ordering_reverse}
use Rattle.std.specs.Set.{is_member}
use Rattle.std.specs.declared.cmp.Ordering.{Ordering}
use Rattle.std.specs.declared.cmp.Ordering.TheVariants.{Less, Greater}
use Rattle.std.proofs.lemmas.Cmp.{eq_by_cmp_equiv}
use Rattle.std.proofs.lemmas.List.Sorted.{IsPermutation-insert, IsPermutation-remove, list_any-IsPermutation, searchable_from_sorted}
use Rattle.std.proofs.lemmas.Map.Steps.{list_any_congr}
use Rattle.std.proofs.lemmas.Map.Keys.{IsDistinct-IsPermutation, IsDistinct-from_sorted, IsDistinct-head}

module _ {X : Type 0} (P : X → Type 0) where
  -- what holds of all, at one of them
  all-at : (xs : List X) → AllByRecursion P xs → (k : ℕ) (d : X) → k < length xs → P (get_or xs k d)
  all-at [] a k d h = absurd (omega arith)
  all-at (x ∷ xs) a zero d h = a.0
  all-at (x ∷ xs) a (suc k) d h = all-at xs a.1 k d (omega arith)

  all-of : (xs : List X) → ((k : ℕ) (d : X) → k < length xs → P (get_or xs k d)) → AllByRecursion P xs
  all-of [] h = tt
  all-of (x ∷ xs) h = (h 0 x (omega arith), all-of xs (λ k d l. h (suc k) d (omega arith)))

  all-take : (xs : List X) (i : ℕ) → i ≤ length xs → AllWithin P xs 0 i → AllByRecursion P (take i xs)
  all-take xs zero l h = tt
  all-take [] (suc i) l h = tt
  all-take (x ∷ xs) (suc i) l h =
      let rest : AllWithin P xs 0 i = λ k d a b. h (suc k) d (omega arith) (omega arith) in
      (h 0 x (omega arith) (omega arith), all-take xs i (omega arith) rest)

  all-drop : (xs : List X) (i : ℕ) → AllWithin P xs i (length xs) → AllByRecursion P (drop i xs)
  all-drop xs zero h = all-of xs (λ k d l. h k d (omega arith) l)
  all-drop [] (suc i) h = tt
  all-drop (x ∷ xs) (suc i) h = all-drop xs i (λ k d a b. h (suc k) d (omega arith) (omega arith))

  all-insert : (xs : List X) (i : ℕ) (y : X) → AllByRecursion P xs → P y → AllByRecursion P (insert xs i y)
  all-insert xs zero y a h = (h, a)
  all-insert [] (suc i) y a h = (h, tt)
  all-insert (x ∷ xs) (suc i) y a h = (a.0, all-insert xs i y a.1 h)

  all-remove : (xs : List X) (i : ℕ) → AllByRecursion P xs → AllByRecursion P (remove xs i)
  all-remove [] zero a = tt
  all-remove [] (suc i) a = tt
  all-remove (x ∷ xs) zero a = a.1
  all-remove (x ∷ xs) (suc i) a = (a.0, all-remove xs i a.1)

none-passes : {X : Type 0} (p : X → Bool) (xs : List X) → AllByRecursion (λ x. p x ≡ false) xs → list_any p xs ≡ false
none-passes p [] a = refl
none-passes p (x ∷ xs) a = ap (λ (b : Bool). b || list_any p xs) a.0 ∙ none-passes p xs a.1

or-swap : (a b : Bool) → (a || b) ≡ (b || a)
or-swap true true = refl
or-swap true false = refl
or-swap false true = refl
or-swap false false = refl

pub and-false : (a b : Bool) → b ≡ false → (a && b) ≡ false
and-false true b e = e
and-false false b e = refl

pub and-true : (a b : Bool) → b ≡ true → (a && b) ≡ a
and-true true b e = e
and-true false b e = refl

module _ {K : Type 0} (R : K → K → Ordering) (o : IsTotalOrder R) where
  sorted-into : (xs : List K) (i : ℕ) (y : K) → IsStrictlySortedBy R xs
      → AllByRecursion (λ x. R x y ≡ Less) (take i xs) → AllByRecursion (λ x. R y x ≡ Less) (drop i xs)
      → IsStrictlySortedBy R (insert xs i y)
  unfolding IsStrictlySortedBy
  sorted-into xs zero y s b a = (a, s)
  sorted-into [] (suc i) y s b a = (tt, tt)
  sorted-into (x ∷ xs) (suc i) y s b a =
      (all-insert (λ z. R x z ≡ Less) xs i y s.0 b.0, sorted-into xs i y s.1 b.1 a)

  -- an element is put in between the lesser and the greater
  pub sorted-insert : (xs : List K) (i : ℕ) (y : K) → IsStrictlySortedBy R xs → i ≤ length xs
      → AllWithin (λ x. R x y ≡ Less) xs 0 i → AllWithin (λ x. R x y ≡ Greater) xs i (length xs)
      → IsStrictlySortedBy R (insert xs i y)
  sorted-insert xs i y s l b a =
      sorted-into xs i y s (all-take (λ x. R x y ≡ Less) xs i l b)
      (all-drop (λ x. R y x ≡ Less) xs i (λ k d f t. o.antisymm y (get_or xs k d) ∙ ap ordering_reverse (a k d f t)))

  pub sorted-remove : (xs : List K) (i : ℕ) → IsStrictlySortedBy R xs → IsStrictlySortedBy R (remove xs i)
  unfolding IsStrictlySortedBy
  sorted-remove [] zero s = tt
  sorted-remove [] (suc i) s = tt
  sorted-remove (x ∷ xs) zero s = s.1
  sorted-remove (x ∷ xs) (suc i) s = (all-remove (λ z. R x z ≡ Less) xs i s.0, sorted-remove xs i s.1)

  pub sorted-at : (xs : List K) → IsStrictlySortedBy R xs → (i j : ℕ) (d : K) → i < j → j < length xs
      → R (get_or xs i d) (get_or xs j d) ≡ Less
  unfolding IsStrictlySortedBy
  sorted-at [] s i j d h l = absurd (omega arith)
  sorted-at (x ∷ xs) s i zero d h l = absurd (omega arith)
  sorted-at (x ∷ xs) s zero (suc j) d h l = all-at (λ z. R x z ≡ Less) xs s.0 j d (omega arith)
  sorted-at (x ∷ xs) s (suc i) (suc j) d h l = sorted-at xs s.1 i j d (omega arith) (omega arith)

  -- so a binary search finds what it looks for
  pub searchable : (xs : List K) (y : K) → IsStrictlySortedBy R xs → IsNonDecreasingBy (λ x. ordering_index (R x y)) xs
  searchable xs y s = searchable_from_sorted o (λ (x : K). x) xs y (λ k d f l.
      ap is_lt (o.antisymm (get_or xs (k + 1) d) (get_or xs k d)
      ∙ ap ordering_reverse (sorted-at xs s k (k + 1) d (omega arith) l)))

  -- what was put in is there, beside what was
  pub member-insert : (xs : List K) (i : ℕ) (y q : K)
      → is_member (eq_by_cmp R) (insert xs i y) q ≡ (is_member (eq_by_cmp R) xs q || eq_by_cmp R q y)
  member-insert xs i y q =
      sym (list_any-IsPermutation (eq_by_cmp R q) (y ∷ xs) (insert xs i y) (IsPermutation-insert xs i y))
      ∙ or-swap (eq_by_cmp R q y) (is_member (eq_by_cmp R) xs q)

  -- what was taken out is there no more, beside what was
  module _ (xs : List K) (i : ℕ) (x : K) (there : i < length xs) (at : x ≡ get_or xs i x)
      (s : IsStrictlySortedBy R xs) (q : K) where
    abbrev rest : List K
    rest = remove xs i

    whole : is_member (eq_by_cmp R) xs q ≡ (eq_by_cmp R q x || is_member (eq_by_cmp R) rest q)
    whole = list_any-IsPermutation (eq_by_cmp R q) xs (x ∷ rest) (IsPermutation-remove xs i x there at)

    others : is_member (eq_by_cmp R) rest x ≡ false
    others = none-passes (eq_by_cmp R x) rest (IsDistinct-head (eq_by_cmp R) x rest
        (IsDistinct-IsPermutation (eq_by_cmp R) (eq_by_cmp_equiv o).symm xs (x ∷ rest)
        (IsPermutation-remove xs i x there at) (IsDistinct-from_sorted R xs s)))

    by-sameness : (b : Bool) → eq_by_cmp R q x ≡ b
        → is_member (eq_by_cmp R) rest q ≡ (is_member (eq_by_cmp R) xs q && not (eq_by_cmp R q x))
    by-sameness true e = list_any_congr (eq_by_cmp_equiv o) q x rest e ∙ others
        ∙ sym (and-false (is_member (eq_by_cmp R) xs q) (not (eq_by_cmp R q x)) (ap not e))
    by-sameness false e = sym (and-true (is_member (eq_by_cmp R) xs q) (not (eq_by_cmp R q x)) (ap not e)
        ∙ whole ∙ ap (λ (b : Bool). b || is_member (eq_by_cmp R) rest q) e)

    pub member-remove : is_member (eq_by_cmp R) rest q ≡ (is_member (eq_by_cmp R) xs q && not (eq_by_cmp R q x))
    member-remove = by-sameness (eq_by_cmp R q x) refl
