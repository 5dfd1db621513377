-- The laws above the calls' definitions.
use Rattle.std.proofs.Common.{◌≡◌, ◌∙◌, ℕ, ◌+◌, ◌-◌, ◌<◌, ◌≤◌, min, true, false, not, ℤ, pos, negsuc, ◌+ℤ◌, ◌≤ℤ◌, List, ◌++◌, length, take, drop, sym, ap, refl, subst, arith, length-append}
use Rattle.std.specs.Int.RustNames.{int_le, int_lt}
use Rattle.std.specs.List.{slice_range}
use Rattle.std.proofs.lemmas.Bool.{cond-false}
use Rattle.std.proofs.lemmas.Bool.Decides.{nat_tests}
use Rattle.std.proofs.lemmas.Int.{ints}
use Rattle.std.proofs.lemmas.List.{append_assoc, drop_at, length-drop, length-take, take_all, take_at}
use Rattle.lsl_pure.specs.Cuts.{taken, left, inserted, inserted_at}
use Rattle.lsl_pure.specs.Laws.{place_before, place_behind}
use Rattle.lsl_pure.specs.Places.{place_of, clamped, in_range, pick, within}
use Rattle.lsl_pure.proofs.PlaceLemmas.{pick-inside, pick-outside, three_parts}
use Rattle.lsl_pure.proofs.RangeLemmas.{clamped-negative, inside_range}

-- the cuts of a range that isn't turned

clamped-within : (n : ℕ) (z : ℤ) → clamped n z ≤ n
clamped-within n (pos p) = omega arith
clamped-within n (negsuc p) = omega arith

clamped-ordered : (n : ℕ) (f l : ℤ) → f ≤ℤ l → clamped n f ≤ clamped n (l +ℤ pos 1)
clamped-ordered n (pos f) (pos l) ordered = let low : f ≤ l = omega (arith, ints) in omega arith
clamped-ordered n (negsuc f) (pos l) ordered = omega arith
clamped-ordered n (pos f) (negsuc l) ordered = absurd (omega (arith, ints))
clamped-ordered n (negsuc f) (negsuc l) ordered = omega arith

before_range : (n k : ℕ) (f : ℤ) → k < n → int_lt (pos k) f ≡ within 0 (clamped n f) k
before_range n k (pos f) low = grind (arith, nat_tests)
before_range n k (negsuc f) low = grind (arith, nat_tests)

behind_range : (n k : ℕ) (l : ℤ) → k < n → int_lt l (pos k) ≡ within (clamped n (l +ℤ pos 1)) n k
behind_range n k (pos l) low = grind (arith, nat_tests)
behind_range n k (negsuc l) low =
    let all : true ≡ within 0 n k = grind (arith, nat_tests) in
    all ∙ sym (ap (λ s. within s n k) (clamped-negative n l))

slice-front : {X : Type 0} (xs : List X) (n : ℕ) → slice_range xs 0 n ≡ take n xs
slice-front xs n = let same : n - 0 ≡ n = omega arith in ap (λ m. take m xs) same

slice-back : {X : Type 0} (xs : List X) (k : ℕ) → slice_range xs k (length xs) ≡ drop k xs
slice-back xs k = take_all (length xs - k) (drop k xs) (omega (arith, length-drop k xs))

pick-before : {X : Type 0} (xs : List X) (first : ℤ)
    → pick (place_before (length xs) first) xs ≡ take (clamped (length xs) (place_of (length xs) first)) xs
pick-before xs first =
    pick-inside (place_before (length xs) first) xs 0 (clamped (length xs) (place_of (length xs) first))
    (omega arith) (clamped-within (length xs) (place_of (length xs) first))
    (λ k low. before_range (length xs) k (place_of (length xs) first) low)
    ∙ slice-front xs (clamped (length xs) (place_of (length xs) first))

pick-behind : {X : Type 0} (xs : List X) (last : ℤ)
    → pick (place_behind (length xs) last) xs
    ≡ drop (clamped (length xs) (place_of (length xs) last +ℤ pos 1)) xs
pick-behind xs last =
    pick-inside (place_behind (length xs) last) xs (clamped (length xs) (place_of (length xs) last +ℤ pos 1))
    (length xs) (clamped-within (length xs) (place_of (length xs) last +ℤ pos 1)) (omega arith)
    (λ k low. behind_range (length xs) k (place_of (length xs) last) low)
    ∙ slice-back xs (clamped (length xs) (place_of (length xs) last +ℤ pos 1))

ordered-test : (a b : ℤ) → a ≤ℤ b → int_le a b ≡ true
ordered-test a b ordered = grind (arith, ints)

taken-cut : {X : Type 0} (xs : List X) (first last : ℤ) → place_of (length xs) first ≤ℤ place_of (length xs) last
    → taken xs first last ≡ slice_range xs (clamped (length xs) (place_of (length xs) first))
    (clamped (length xs) (place_of (length xs) last +ℤ pos 1))
taken-cut xs first last ordered =
    let n = length xs in
    pick-inside (in_range n first last) xs (clamped n (place_of n first)) (clamped n (place_of n last +ℤ pos 1))
    (clamped-ordered n (place_of n first) (place_of n last) ordered)
    (clamped-within n (place_of n last +ℤ pos 1))
    (λ k low. inside_range n k (place_of n first) (place_of n last) low
    (ordered-test (place_of n first) (place_of n last) ordered))

left-cut : {X : Type 0} (xs : List X) (first last : ℤ) → place_of (length xs) first ≤ℤ place_of (length xs) last
    → left xs first last ≡ take (clamped (length xs) (place_of (length xs) first)) xs ++ drop
    (clamped (length xs) (place_of (length xs) last +ℤ pos 1)) xs
left-cut xs first last ordered =
    let n = length xs in
    pick-outside (λ k. not (in_range n first last k)) xs (clamped n (place_of n first))
    (clamped n (place_of n last +ℤ pos 1)) (clamped-ordered n (place_of n first) (place_of n last) ordered)
    (clamped-within n (place_of n last +ℤ pos 1))
    (λ k low. ap not (inside_range n k (place_of n first) (place_of n last) low
    (ordered-test (place_of n first) (place_of n last) ordered)))

pub parts-whole : {X : Type 0} (xs : List X) (first last : ℤ) → place_of (length xs) first ≤ℤ place_of (length xs) last
    → pick (place_before (length xs) first) xs ++ taken xs first last ++ pick (place_behind (length xs) last) xs ≡ xs
parts-whole xs first last ordered =
    let n = length xs in
    let s = clamped n (place_of n first) in
    let e = clamped n (place_of n last +ℤ pos 1) in
    ap (λ a. a ++ taken xs first last ++ pick (place_behind n last) xs) (pick-before xs first)
    ∙ ap (λ b. take s xs ++ b ++ pick (place_behind n last) xs) (taken-cut xs first last ordered)
    ∙ ap (λ c. take s xs ++ slice_range xs s e ++ c) (pick-behind xs last)
    ∙ append_assoc (take s xs) (slice_range xs s e) (drop e xs)
    ∙ sym (three_parts xs s e (clamped-ordered n (place_of n first) (place_of n last) ordered))

pub parts-deleted : {X : Type 0} (xs : List X) (first last : ℤ)
    → place_of (length xs) first ≤ℤ place_of (length xs) last
    → left xs first last ≡ pick (place_before (length xs) first) xs ++ pick (place_behind (length xs) last) xs
parts-deleted xs first last ordered =
    let n = length xs in
    left-cut xs first last ordered
    ∙ ap (λ a. a ++ drop (clamped n (place_of n last +ℤ pos 1)) xs) (sym (pick-before xs first))
    ∙ ap (λ c. pick (place_before n first) xs ++ c) (sym (pick-behind xs last))

-- places counted from the start

place_from : (n p : ℕ) → place_of n (pos p) ≡ pos p
place_from n p = let start : int_lt (pos p) (pos 0) ≡ false = grind (arith, nat_tests) in cond-false _ _ _ start

places-ordered : (n a b : ℕ) → a ≤ b → place_of n (pos a) ≤ℤ place_of n (pos b)
places-ordered n a b ordered =
    let low : pos a ≤ℤ pos b = omega (arith, ints) in
    let P : ℤ → Type 0 = λ z. z ≤ℤ place_of n (pos b) in
    let Q : ℤ → Type 0 = λ z. pos a ≤ℤ z in
    subst P (sym (place_from n a)) (subst Q (sym (place_from n b)) low)

cut_from : (n p : ℕ) → p ≤ n → clamped n (place_of n (pos p)) ≡ p
cut_from n p inside = let here : min p n ≡ p = omega arith in ap (clamped n) (place_from n p) ∙ here

cut_to : (n p : ℕ) → p < n → clamped n (place_of n (pos p) +ℤ pos 1) ≡ p + 1
cut_to n p inside = let here : min (p + 1) n ≡ p + 1 = omega arith in
    ap (λ z. clamped n (z +ℤ pos 1)) (place_from n p) ∙ here

pub length-taken : {X : Type 0} (xs : List X) (a b : ℕ) → a ≤ b → b < length xs
    → length (taken xs (pos a) (pos b)) ≡ b + 1 - a
length-taken xs a b ordered inside =
    ap length (taken-cut xs (pos a) (pos b) (places-ordered (length xs) a b ordered))
    ∙ ap (λ k. length (slice_range xs k (clamped (length xs) (place_of (length xs) (pos b) +ℤ pos 1))))
    (cut_from (length xs) a (omega arith))
    ∙ ap (λ k. length (slice_range xs a k)) (cut_to (length xs) b inside)
    ∙ omega (arith, length-take (b + 1 - a) (drop a xs), length-drop a xs)

slice-inserted : {X : Type 0} (xs ys : List X) (p : ℕ) → p ≤ length xs
    → slice_range (inserted xs p ys) p (p + length ys) ≡ ys
slice-inserted xs ys p inside =
    let front : length (take p xs) ≡ p = omega (arith, length-take p xs) in
    let size : p + length ys - p ≡ length ys = omega arith in
    ap (λ n. take n (drop p (inserted xs p ys))) size
    ∙ ap (λ t. take (length ys) (drop p t)) (append_assoc (take p xs) ys (drop p xs))
    ∙ ap (take (length ys)) (drop_at (take p xs) (ys ++ drop p xs) p front)
    ∙ take_at ys (drop p xs) (length ys) refl

pub taken-inserted : {X : Type 0} (xs ys : List X) (p : ℕ) → p ≤ length xs → 0 < length ys
    → taken (inserted_at xs (pos p) ys) (pos p) (pos (p + length ys - 1)) ≡ ys
taken-inserted xs ys p inside some =
    let here : min p (length xs) ≡ p = omega arith in
    let whole = inserted xs p ys in
    let size : length whole ≡ length xs + length ys =
    omega (
      arith,
      length-append (take p xs ++ ys) (drop p xs),
      length-append (take p xs) ys,
      length-take p
          xs,
      length-drop p xs,
    ) in
    let behind : p + length ys - 1 + 1 ≡ p + length ys = omega arith in
    ap (λ k. taken (inserted xs k ys) (pos p) (pos (p + length ys - 1))) here
    ∙ taken-cut whole (pos p) (pos (p + length ys - 1))
    (places-ordered (length whole) p (p + length ys - 1) (omega arith))
    ∙ ap (λ k. slice_range whole k (clamped (length whole)
    (place_of (length whole) (pos (p + length ys - 1)) +ℤ pos 1))) (cut_from (length whole) p (omega arith))
    ∙ ap (slice_range whole p) (cut_to (length whole) (p + length ys - 1) (omega arith) ∙ behind)
    ∙ slice-inserted xs ys p inside
