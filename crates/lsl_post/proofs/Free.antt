-- Among one number more than there are listens, one is free.
use Rattle.std.proofs.Common.{◌≡◌, ℕ, zero, suc, ◌+◌, ◌<◌, ◌≤◌, Bool, true, false, cond, List, [], ◌∷◌, length, map, refl, ap, sym, ◌∙◌, subst, arith, inl, inr, ⊎_elim, true≢false}
use Rattle.std.specs.Prelude.{ℤ, pos, negsuc, nat_lt, ◌||◌, ◌⊎◌}
use Rattle.std.specs.Cmp.{signed_Decides}
use Rattle.std.specs.List.{list_any, AllByRecursion, IsDistinct}
use Rattle.std.specs.Ordering.{int_eq}
use Rattle.std.proofs.lemmas.Bool.{cond_both, cases_Bool}
use Rattle.std.proofs.lemmas.Bool.Decides.{nat_tests}
use Rattle.std.proofs.lemmas.Cmp.{int_eq_equiv}
use Rattle.std.proofs.lemmas.List.{length-map}
use Rattle.std.proofs.lemmas.Map.Made.{length-le_from_is_member}
use Rattle.lsl_post.specs.declared.listen.Listen.{Listen}
use Rattle.lsl_post.specs.Listens.{first_free, free_number, has_number, is_number, number_after, number_of, numbers_from, Standing, IsStanding}

-- the number after a number, as a natural one
abbrev follows : ℕ → ℕ
follows n = cond (nat_lt n 2147483647) (n + 1) 1

pos-cond : (b : Bool) (m k : ℕ) → cond b (pos m) (pos k) ≡ pos (cond b m k)
pos-cond true m k = refl
pos-cond false m k = refl

pub pos-after : (n : ℕ) → number_after (pos n) ≡ pos (follows n)
pos-after n = pos-cond (nat_lt n 2147483647) (n + 1) 1

-- m is d numbers ahead of k
IsAhead : ℕ → ℕ → ℕ → Type 0
IsAhead k m d = (m ≡ k + d) ⊎ (m + 2147483647 ≡ k + d)

pub follows-range : (n : ℕ) → (1 ≤ follows n) × (follows n ≤ 2147483647)
follows-range n = cond_both (nat_lt n 2147483647) (n + 1) 1 (λ m. (1 ≤ m) × (m ≤ 2147483647))
    (λ e. let h : n < 2147483647 = grind (arith, nat_tests) in (omega arith, omega arith))
    (λ e. (omega arith, omega arith))

ahead-more : (k m d : ℕ) → k ≤ 2147483647 → m ≤ 2147483647 → d + 1 ≤ 2147483647 → IsAhead k m d
    → IsAhead k (follows m) (d + 1)
unfolding IsAhead
ahead-more k m d hk hm hd (inl e) =
    cond_both (nat_lt m 2147483647) (m + 1) 1 (λ z. (z ≡ k + (d + 1)) ⊎ (z + 2147483647 ≡ k + (d + 1)))
    (λ t. inl (omega (arith, e)))
    (λ f. let h : 2147483647 ≤ m = grind (arith, nat_tests) in inr (omega arith))
ahead-more k m d hk hm hd (inr e) =
    cond_both (nat_lt m 2147483647) (m + 1) 1 (λ z. (z ≡ k + (d + 1)) ⊎ (z + 2147483647 ≡ k + (d + 1)))
    (λ t. inr (omega (arith, e)))
    (λ f. let h : 2147483647 ≤ m = grind (arith, nat_tests) in absurd (omega arith))

ahead-apart : (k m d : ℕ) → 1 ≤ d → d < 2147483647 → IsAhead k m d → k ≡ m → ⊥
unfolding IsAhead
ahead-apart k m d one few (inl e) same = omega arith
ahead-apart k m d one few (inr e) same = omega arith

pos-is : (k m : ℕ) → pos k ≡ pos m → k ≡ m
pos-is k m e = ap (λ (z : ℤ). cases z) e
  where
    cases : ℤ → ℕ
    cases (pos n) = n
    cases (negsuc n) = 0

not-true : (b : Bool) → (b ≡ true → ⊥) → b ≡ false
not-true true h = absurd (h refl)
not-true false h = refl

apart : (k m d : ℕ) → 1 ≤ d → d < 2147483647 → IsAhead k m d → int_eq (pos k) (pos m) ≡ false
apart k m d one few ahead = not-true _ (λ t.
    ahead-apart k m d one few ahead (pos-is k m ((signed_Decides (pos k) (pos m)).0 t)))

not-back : (count k m d : ℕ) → k ≤ 2147483647 → m ≤ 2147483647 → 1 ≤ d → d + count ≤ 2147483647
    → IsAhead k m d →
    AllByRecursion (λ y. int_eq (pos k) y ≡ false) (numbers_from count (pos m))
unfolding numbers_from
not-back zero k m d hk hm one few ahead = tt
not-back (suc count) k m d hk hm one few ahead = (
  apart k m d one (omega arith) ahead,
  subst (λ z. AllByRecursion (λ y. int_eq (pos k) y ≡ false) (numbers_from count z)) (sym (pos-after m))
      (not-back count k (follows m) (d + 1) hk (follows-range m).1 (omega arith) (omega arith)
      (ahead-more k m d hk hm (omega arith) ahead)),
)

first-ahead : (n : ℕ) → n ≤ 2147483647 → IsAhead n (follows n) 1
unfolding IsAhead
first-ahead n h = cond_both (nat_lt n 2147483647) (n + 1) 1 (λ z. (z ≡ n + 1) ⊎ (z + 2147483647 ≡ n + 1))
    (λ t. inl refl) (λ f. let l : 2147483647 ≤ n = grind (arith, nat_tests) in inr (omega arith))

-- numbers that follow one another differ
pub numbers-differ : (count n : ℕ) → n ≤ 2147483647 → count ≤ 2147483647
    → IsDistinct int_eq (numbers_from count (pos n))
unfolding numbers_from IsDistinct
numbers-differ zero n h few = tt
numbers-differ (suc count) n h few = (
  subst (λ z. AllByRecursion (λ y. int_eq (pos n) y ≡ false) (numbers_from count z)) (sym (pos-after n))
      (not-back count n (follows n) 1 h (follows-range n).1 (omega arith) (omega arith) (first-ahead n h)),
  subst (λ z. IsDistinct int_eq (numbers_from count z)) (sym (pos-after n))
      (numbers-differ count (follows n) (follows-range n).1 (omega arith)),
)

length-numbers : (count : ℕ) (n : ℤ) → length (numbers_from count n) ≡ count
unfolding numbers_from
length-numbers zero n = refl
length-numbers (suc count) n = ap suc (length-numbers count (number_after n))

-- if all of these are taken, what is among them is taken
all-stand : (list : List Listen) (ns : List ℤ) → AllByRecursion (λ n. has_number list n ≡ true) ns → (q : ℤ)
    → list_any (int_eq q) ns ≡ true → has_number list q ≡ true
all-stand list [] all q h = absurd cc
all-stand list (n ∷ ns) all q h =
    ⊎_elim (λ e. subst (λ z. has_number list z ≡ true) (sym ((signed_Decides q n).0 e)) all.0)
    (λ e. all-stand list ns all.1 q (sym (ap (λ (c : Bool). c || list_any (int_eq q) ns) e) ∙ h))
    (cases_Bool (int_eq q n))

pub not-all : (list : List Listen) (n : ℕ) → n ≤ 2147483647 → length list < 2147483647
    → AllByRecursion (λ m. has_number list m ≡ true) (numbers_from (length list + 1) (pos n)) → ⊥
not-all list n h few all =
    let most = length-le_from_is_member int_eq_equiv (numbers_from (length list + 1) (pos n))
    (map number_of list) (numbers-differ (length list + 1) n h (omega arith)) (all-stand list _ all) in
    omega (arith, most, length-numbers (length list + 1) (pos n), length-map list number_of)

-- the first free one isn't taken, unless all are
pub first-free : (list : List Listen) (ns : List ℤ)
    → (AllByRecursion (λ n. has_number list n ≡ true) ns → ⊥) → has_number list (first_free list ns) ≡ false
unfolding first_free
first-free list [] some = absurd (some tt)
first-free list (n ∷ ns) some =
    cond_both (has_number list n) (first_free list ns) n (λ z. has_number list z ≡ false)
    (λ t. first-free list ns (λ all. some (t, all))) (λ f. f)

-- and is one of these
pub first-among : (list : List Listen) (P : ℤ → Type 0) (ns : List ℤ)
    → (AllByRecursion (λ n. has_number list n ≡ true) ns → ⊥) → AllByRecursion P ns → P (first_free list ns)
unfolding first_free
first-among list P [] some each = absurd (some tt)
first-among list P (n ∷ ns) some each =
    cond_both (has_number list n) (first_free list ns) n P
    (λ t. first-among list P ns (λ all. some (t, all)) each.1) (λ f. each.0)

is-number : (n : ℕ) → 1 ≤ n → is_number (pos n) ≡ true
is-number n one = grind (arith, nat_tests)

pub are-numbers : (count n : ℕ) → 1 ≤ n → AllByRecursion (λ m. is_number m ≡ true)
    (numbers_from count (pos n))
unfolding numbers_from
are-numbers zero n one = tt
are-numbers (suc count) n one = (
  is-number n one,
  subst (λ z. AllByRecursion (λ m. is_number m ≡ true) (numbers_from count z))
      (sym (pos-after n)) (are-numbers count (follows n) (follows-range n).0),
)

-- a number is a natural one from 1 on
pub number-pos : (z : ℤ) → is_number z ≡ true → (n : ℕ) × (z ≡ pos n) × (1 ≤ n)
number-pos (pos n) h = (n, refl, grind (arith, nat_tests))
number-pos (negsuc n) h = absurd cc

-- the first free number is free, and a number
pub free-is : (s : Standing) → IsStanding s → ((n : ℕ) → s.next ≡ pos n → n ≤ 2147483647)
    → (has_number s.list (free_number s) ≡ false) × (is_number (free_number s) ≡ true)
free-is s stands range =
    let number = number-pos s.next stands.next in
    let low = range number.0 number.1 in
    let some = not-all s.list number.0 low (omega (arith, stands.few)) in
    let from : free_number s ≡ first_free s.list (numbers_from (length s.list + 1) (pos number.0))
    = ap (λ n. first_free s.list (numbers_from (length s.list + 1) n)) number.1 in (
      subst (λ n. has_number s.list n ≡ false) (sym from) (first-free s.list _ some),
      subst (λ n. is_number n ≡ true) (sym from)
          (first-among s.list (λ m. is_number m ≡ true) _ some
          (are-numbers (length s.list + 1) number.0 number.2)),
    )

-- the first of the numbers from one on that is free
pub first-here : (list : List Listen) (count k : ℕ) (n : ℤ) → count ≡ k + 1 → has_number list n ≡ false
    → first_free list (numbers_from count n) ≡ n
unfolding first_free numbers_from
first-here list zero k n e h = absurd (omega (arith, e))
first-here list (suc count) k n e h = ap (λ (b : Bool).
    cond b (first_free list (numbers_from count (number_after n))) n) h

pub first-later : (list : List Listen) (count k : ℕ) (n : ℤ) → count ≡ k + 1 → has_number list n ≡ true
    → first_free list (numbers_from count n) ≡ first_free list (numbers_from k (number_after n))
unfolding first_free numbers_from
first-later list zero k n e h = absurd (omega (arith, e))
first-later list (suc count) k n e h =
    ap (λ (b : Bool). cond b (first_free list (numbers_from count (number_after n))) n) h
    ∙ ap (λ c. first_free list (numbers_from c (number_after n))) (omega (arith, e))

-- the last of them is free where all others aren't, since one is
pub first-last : (list : List Listen) (n z : ℤ) → is_number z ≡ true
    → z ≡ first_free list (numbers_from 1 n) → n ≡ z
unfolding first_free numbers_from
first-last list n z h e =
    ⊎_elim (λ t. absurd (true≢false (sym h ∙ ap is_number (e ∙ ap (λ (b : Bool). cond b (pos 0) n) t))))
    (λ f. sym (e ∙ ap (λ (b : Bool). cond b (pos 0) n) f))
    (cases_Bool (has_number list n))

pub after-number : (z : ℤ) → is_number z ≡ true → is_number (number_after z) ≡ true
after-number z h =
    let number = number-pos z h in
    subst (λ n. is_number n ≡ true) (sym (ap number_after number.1 ∙ pos-after number.0))
    (is-number (follows number.0) (follows-range number.0).0)
