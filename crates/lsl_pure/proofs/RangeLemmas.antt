-- A range of places between two cuts.
use Rattle.std.proofs.Common.{◌≡◌, ◌∙◌, ℕ, ◌<◌, ◌≤◌, min, Bool, true, false, cond, not, nat_le, ℤ, pos, negsuc, ◌+ℤ◌, ◌≤ℤ◌, List, ◌++◌, length, take, drop, Result, Ok, Err, IfOk, sym, ap, refl, arith}
use Rattle.std.specs.Int.RustNames.{int_le}
use Rattle.std.specs.List.{slice_range}
use Rattle.std.proofs.lemmas.Bool.{cond-true, cond-false, false≢true}
use Rattle.std.proofs.lemmas.List.{append-nil, drop_all, take_all}
use Rattle.std.proofs.lemmas.Int.{ints}
use Rattle.std.proofs.lemmas.Bool.Decides.{nat_tests}
use Rattle.lsl_pure.specs.Places.{place_of, clamped, in_range, in_range_between, within}
use Rattle.lsl_pure.specs.Cuts.{taken, left, inserted, replaced}
use Rattle.lsl_pure.proofs.PlaceLemmas.{pick-inside, pick-outside}

clamped-low : (n : ℕ) (z : ℤ) → z ≤ℤ pos 0 → clamped n z ≡ 0
clamped-low n (pos p) low = let none : p ≡ 0 = omega (arith, ints) in omega arith
clamped-low n (negsuc p) low = refl

-- what ends before the start has no place
pub clamped-negative : (n l : ℕ) → clamped n (negsuc l +ℤ pos 1) ≡ 0
clamped-negative n l = clamped-low n (negsuc l +ℤ pos 1) (omega (arith, ints))

pub inside_range : (n k : ℕ) (f l : ℤ) → k < n → int_le f l ≡ true
    → in_range_between f l k ≡ within (clamped n f) (clamped n (l +ℤ pos 1)) k
inside_range n k (pos f) (pos l) low ordered = grind (arith, nat_tests)
inside_range n k (negsuc f) (pos l) low ordered = grind (arith, nat_tests)
inside_range n k (pos f) (negsuc l) low ordered = cc
inside_range n k (negsuc f) (negsuc l) low ordered =
    let past : within 0 0 k ≡ false = grind (arith, nat_tests) in
    cond-true _ _ _ ordered ∙ sym past ∙ sym (ap (λ e. within 0 e k) (clamped-negative n l))

outside_range : (n k : ℕ) (f l : ℤ) → k < n → int_le f l ≡ false
    → in_range_between f l k ≡ not (within (clamped n (l +ℤ pos 1)) (clamped n f) k)
outside_range n k (pos f) (pos l) low turned = grind (arith, nat_tests)
outside_range n k (negsuc f) (pos l) low turned = cc
outside_range n k (pos f) (negsuc l) low turned =
    let behind : nat_le f k ≡ not (within 0 (min f n) k) = grind (arith, nat_tests) in
    behind ∙ sym (ap (λ s. not (within s (min f n) k)) (clamped-negative n l))
outside_range n k (negsuc f) (negsuc l) low turned =
    let all : not (within 0 0 k) ≡ true = grind (arith, nat_tests) in
    cond-false _ _ _ turned ∙ sym all ∙ sym (ap (λ s. not (within s 0 k)) (clamped-negative n l))

pub range_inside : (n k : ℕ) (first last f l : ℤ) (b e : ℕ) → f ≡ place_of n first → l ≡ place_of n last
    → int_le f l ≡ true
    → b ≡ clamped n f → e ≡ clamped n (l +ℤ pos 1) → k < n → in_range n first last k ≡ within b e k
range_inside n k first last f l b e f-is l-is ordered b-is e-is low =
    ap (λ z. in_range_between z (place_of n last) k) (sym f-is) ∙ ap (λ z. in_range_between f z k) (sym l-is)
    ∙ inside_range n k f l low ordered ∙ ap (λ s. within s (clamped n (l +ℤ pos 1)) k) (sym b-is)
    ∙ ap (λ t. within b t k) (sym e-is)

pub range_outside : (n k : ℕ) (first last f l : ℤ) (b e : ℕ) → f ≡ place_of n first → l ≡ place_of n last
    → int_le f l ≡ false
    → b ≡ clamped n f → e ≡ clamped n (l +ℤ pos 1) → k < n → in_range n first last k ≡ not (within e b k)
range_outside n k first last f l b e f-is l-is turned b-is e-is low =
    ap (λ z. in_range_between z (place_of n last) k) (sym f-is) ∙ ap (λ z. in_range_between f z k) (sym l-is)
    ∙ outside_range n k f l low turned ∙ ap (λ t. not (within (clamped n (l +ℤ pos 1)) t k)) (sym b-is)
    ∙ ap (λ s. not (within s b k)) (sym e-is)

-- what a range takes and leaves, by its cuts

not-not : (b : Bool) → not (not b) ≡ b
not-not true = refl
not-not false = refl

-- the places of a range stand between its cuts, or outside of them where it is turned
abbrev pub HasCuts : ℕ → ℤ → ℤ → ℕ → ℕ → Bool → Type 0
HasCuts n first last start end turned = (k : ℕ) → k < n
    → in_range n first last k ≡ cond turned (not (within start end k)) (within start end k)

pub HasCuts-at : (n : ℕ) (f l first last : ℤ) (start end : ℕ) (turned : Bool) → f ≡ first → l ≡ last
    → HasCuts n f l start end turned → HasCuts n first last start end turned
HasCuts-at n f l first last start end turned f-is l-is cuts = λ k low.
    ap (λ z. in_range n z last k) (sym f-is) ∙ ap (λ z. in_range n f z k) (sym l-is) ∙ cuts k low

pub taken_outside : {X : Type 0} (xs : List X) (first last : ℤ) (n start end : ℕ) (turned : Bool)
    → n ≡ length xs → start ≤ end → end ≤ n
    → HasCuts n first last start end turned → turned ≡ true → taken xs first last ≡ take start xs ++ drop end xs
taken_outside xs first last n start end turned size ordered short cuts is =
    pick-outside (in_range (length xs) first last) xs start end ordered (omega arith)
    (λ k low. ap (λ m. in_range m first last k) (sym size) ∙ cuts k (omega arith) ∙ cond-true _ _ _ is)

pub taken_inside : {X : Type 0} (xs : List X) (first last : ℤ) (n start end : ℕ) (turned : Bool) → n ≡ length xs
    → start ≤ end → end ≤ n
    → HasCuts n first last start end turned → turned ≡ false → taken xs first last ≡ slice_range xs start end
taken_inside xs first last n start end turned size ordered short cuts is =
    pick-inside (in_range (length xs) first last) xs start end ordered (omega arith)
    (λ k low. ap (λ m. in_range m first last k) (sym size) ∙ cuts k (omega arith) ∙ cond-false _ _ _ is)

pub left_outside : {X : Type 0} (xs : List X) (first last : ℤ) (n start end : ℕ) (turned : Bool) → n ≡ length xs
    → start ≤ end → end ≤ n
    → HasCuts n first last start end turned → turned ≡ false → left xs first last ≡ take start xs ++ drop end xs
left_outside xs first last n start end turned size ordered short cuts is =
    pick-outside (λ k. not (in_range (length xs) first last k)) xs start end ordered (omega arith)
    (λ k low. ap not (ap (λ m. in_range m first last k) (sym size) ∙ cuts k (omega arith) ∙ cond-false _ _ _ is))

pub left_inside : {X : Type 0} (xs : List X) (first last : ℤ) (n start end : ℕ) (turned : Bool) → n ≡ length xs
    → start ≤ end → end ≤ n
    → HasCuts n first last start end turned → turned ≡ true → left xs first last ≡ slice_range xs start end
left_inside xs first last n start end turned size ordered short cuts is =
    pick-inside (λ k. not (in_range (length xs) first last k)) xs start end ordered (omega arith)
    (λ k low. ap not (ap (λ m. in_range m first last k) (sym size) ∙ cuts k (omega arith) ∙ cond-true _ _ _ is)
    ∙ not-not (within start end k))

pub IfOk-same : {T E : Type 0} (r : Result T E) (a b : T) → b ≡ a → IfOk r (λ x. x ≡ a) → IfOk r (λ x. x ≡ b)
IfOk-same (Ok x) a b same is = is ∙ sym same
IfOk-same (Err e) a b same is = tt

-- a list in the place of a range

inserted-end : {X : Type 0} (xs ys : List X) → inserted xs (length xs) ys ≡ xs ++ ys
inserted-end xs ys =
    ap (λ t. t ++ ys ++ drop (length xs) xs) (take_all (length xs) xs (omega arith))
    ∙ ap (λ t. xs ++ ys ++ t) (drop_all (length xs) xs (omega arith)) ∙ append-nil (xs ++ ys)

not-true-false : (b c : Bool) → b ≡ not c → b ≡ true → c ≡ false
not-true-false b true same is = absurd (false≢true (sym same ∙ is))
not-true-false b false same is = refl

not-false-true : (b c : Bool) → b ≡ not c → b ≡ false → c ≡ true
not-false-true b true same is = refl
not-false-true b false same is = absurd (false≢true (sym is ∙ same))

pub replaced_turned : {X : Type 0} (xs ys rest : List X) (f l first last : ℤ) (n k : ℕ) (turned : Bool)
    → f ≡ first → l ≡ last → n ≡ length xs
    → turned ≡ not (int_le (place_of n f) (place_of n l)) → turned ≡ true → rest ≡ left xs first last
    → k ≡ length rest → inserted rest k ys ≡ replaced xs ys first last
replaced_turned xs ys rest f l first last n k turned f-is l-is size test is same end =
    let order : int_le (place_of (length xs) first) (place_of (length xs) last) ≡ false =
    ap (λ m. int_le (place_of m first) (place_of m last)) (sym size)
    ∙ ap (λ z. int_le (place_of n z) (place_of n last)) (sym f-is)
    ∙ ap (λ z. int_le (place_of n f) (place_of n z)) (sym l-is) ∙ not-true-false turned _ test is in
    ap (λ m. inserted rest m ys) end ∙ inserted-end rest ys ∙ ap (λ r. r ++ ys) same ∙ sym (cond-false _ _ _ order)

pub replaced_straight : {X : Type 0} (xs ys rest : List X) (f l first last : ℤ) (n start : ℕ) (turned : Bool)
    → f ≡ first → l ≡ last → n ≡ length xs
    → turned ≡ not (int_le (place_of n f) (place_of n l)) → turned ≡ false → rest ≡ left xs first last
    → start ≡ clamped n (place_of n f) → inserted rest start ys ≡ replaced xs ys first last
replaced_straight xs ys rest f l first last n start turned f-is l-is size test is same begin =
    let order : int_le (place_of (length xs) first) (place_of (length xs) last) ≡ true =
    ap (λ m. int_le (place_of m first) (place_of m last)) (sym size)
    ∙ ap (λ z. int_le (place_of n z) (place_of n last)) (sym f-is)
    ∙ ap (λ z. int_le (place_of n f) (place_of n z)) (sym l-is) ∙ not-false-true turned _ test is in
    let here : start ≡ clamped (length xs) (place_of (length xs) first) =
    begin ∙ ap (λ z. clamped n (place_of n z)) f-is ∙ ap (λ m. clamped m (place_of m first)) size in
    ap (λ r. inserted r start ys) same ∙ ap (λ m. inserted (left xs first last) m ys) here ∙ sym (cond-true _ _ _ order)
