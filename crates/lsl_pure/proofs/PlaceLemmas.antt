-- Picks of places, and what ranges of places pick.
use Rattle.std.proofs.Common.{◌≡◌, ◌∙◌, ℕ, suc, ◌+◌, ◌-◌, ◌<◌, ◌≤◌, Bool, true, false, cond, not, List, [], ◌∷◌, ◌++◌, length, take, drop, sym, ap, refl, arith}
use Rattle.std.specs.List.{slice_range}
use Rattle.std.proofs.lemmas.Bool.{cond-true, cond-false}
use Rattle.std.proofs.lemmas.Bool.Decides.{nat_tests}
use Rattle.std.proofs.lemmas.List.{append-nil, take-append-drop, drop-drop, length-take, length-drop}
use Rattle.lsl_pure.specs.Places.{pick, within}

pub pick-same : {X : Type 0} (p q : ℕ → Bool) (xs : List X) → ((k : ℕ) → k < length xs → p k ≡ q k)
    → pick p xs ≡ pick q xs
pick-same p q [] same = refl
pick-same p q (x ∷ xs) same =
    let others = pick-same (λ k. p (suc k)) (λ k. q (suc k)) xs (λ k low. same (suc k) (omega arith)) in
    ap (λ b. cond b (x ∷ pick (λ k. p (suc k)) xs) (pick (λ k. p (suc k)) xs)) (same 0 (omega arith))
    ∙ ap (λ ys. cond (q 0) (x ∷ ys) ys) others

pub pick-all : {X : Type 0} (p : ℕ → Bool) (xs : List X) → ((k : ℕ) → k < length xs → p k ≡ true) → pick p xs ≡ xs
pick-all p [] passes = refl
pick-all p (x ∷ xs) passes =
    cond-true _ _ _ (passes 0 (omega arith))
    ∙ ap (λ ys. x ∷ ys) (pick-all (λ k. p (suc k)) xs (λ k low. passes (suc k) (omega arith)))

pub pick-none : {X : Type 0} (p : ℕ → Bool) (xs : List X) → ((k : ℕ) → k < length xs → p k ≡ false) → pick p xs ≡ []
pick-none p [] fails = refl
pick-none p (x ∷ xs) fails =
    cond-false _ _ _ (fails 0 (omega arith)) ∙ pick-none (λ k. p (suc k)) xs (λ k low. fails (suc k) (omega arith))

cond-append : {X : Type 0} (b : Bool) (x : X) (xs ys : List X)
    → cond b (x ∷ (xs ++ ys)) (xs ++ ys) ≡ cond b (x ∷ xs) xs ++ ys
cond-append true x xs ys = refl
cond-append false x xs ys = refl

pub pick-append : {X : Type 0} (p : ℕ → Bool) (xs ys : List X)
    → pick p (xs ++ ys) ≡ pick p xs ++ pick (λ k. p (length xs + k)) ys
pick-append p [] ys = pick-same p (λ k. p (0 + k)) ys (λ k low. let here : k ≡ 0 + k = omega arith in ap p here)
pick-append p (x ∷ xs) ys =
    let there = pick-append (λ k. p (suc k)) xs ys in
    let same = pick-same (λ k. p (suc (length xs + k))) (λ k. p (suc (length xs) + k)) ys
    (λ k low. let here : suc (length xs + k) ≡ suc (length xs) + k = omega arith in ap p here) in
    ap (λ zs. cond (p 0) (x ∷ zs) zs) (there ∙ ap (λ zs. pick (λ k. p (suc k)) xs ++ zs) same)
    ∙ cond-append (p 0) x (pick (λ k. p (suc k)) xs) (pick (λ k. p (suc (length xs) + k)) ys)

-- a list is what stands before a range, in it and behind it
pub three_parts : {X : Type 0} (xs : List X) (start end : ℕ) → start ≤ end
    → xs ≡ take start xs ++ (slice_range xs start end ++ drop end xs)
three_parts xs start end ordered =
    let tail : drop (end - start) (drop start xs) ≡ drop end xs =
    drop-drop (end - start) start xs ∙ (let sum : start + (end - start) ≡ end = omega arith in
    ap (λ n. drop n xs) sum) in
    sym (take-append-drop start xs) ∙ ap (λ ys. take start xs ++ ys)
    (sym (take-append-drop (end - start) (drop start xs)) ∙ ap (λ ys. slice_range xs start end ++ ys) tail)

pick-three : {X : Type 0} (p : ℕ → Bool) (a b c : List X)
    → pick p (a ++ (b ++ c)) ≡ pick p a ++ (pick (λ k. p (length a + k)) b ++ pick
    (λ k. p (length a + (length b + k))) c)
pick-three p a b c =
    pick-append p a (b ++ c) ∙ ap (λ ys. pick p a ++ ys) (pick-append (λ k. p (length a + k)) b c)

within-before : (start end k : ℕ) → k < start → within start end k ≡ false
within-before start end k low = grind (arith, nat_tests)

within-inside : (start end k : ℕ) → start ≤ k → k < end → within start end k ≡ true
within-inside start end k low high = grind (arith, nat_tests)

within-behind : (start end k : ℕ) → end ≤ k → within start end k ≡ false
within-behind start end k high = grind (arith, nat_tests)

pub pick-inside : {X : Type 0} (p : ℕ → Bool) (xs : List X) (start end : ℕ) → start ≤ end → end ≤ length xs
    → ((k : ℕ) → k < length xs → p k ≡ within start end k) → pick p xs ≡ slice_range xs start end
pick-inside p xs start end ordered short test =
    let before : length (take start xs) ≡ start = omega (arith, length-take start xs) in
    let inside : length (slice_range xs start end) ≡ end - start =
    omega (arith, length-take (end - start) (drop start xs), length-drop start xs) in
    let behind : length (drop end xs) ≡ length xs - end = length-drop end xs in
    ap (pick p) (three_parts xs start end ordered)
    ∙ pick-three p (take start xs) (slice_range xs start end) (drop end xs)
    ∙ ap (λ ys. ys ++ (pick (λ k. p (length (take start xs) + k)) (slice_range xs start end) ++ pick
    (λ k. p (length (take start xs) + (length (slice_range xs start end) + k))) (drop end xs)))
    (pick-none p (take start xs) (λ k low. test k (omega arith) ∙ within-before start end k (omega arith)))
    ∙ ap (λ ys. ys ++ pick (λ k. p (length (take start xs) + (length (slice_range xs start end) + k)))
    (drop end xs)) (pick-all (λ k. p (length (take start xs) + k)) (slice_range xs start end)
    (λ k low. test (length (take start xs) + k) (omega arith)
    ∙ within-inside start end _ (omega arith) (omega arith)))
    ∙ ap (λ ys. slice_range xs start end ++ ys)
    (pick-none (λ k. p (length (take start xs) + (length (slice_range xs start end) + k))) (drop end xs)
    (λ k low. test (length (take start xs) + (length (slice_range xs start end) + k)) (omega arith)
    ∙ within-behind start end _ (omega arith)))
    ∙ append-nil (slice_range xs start end)

pub pick-outside : {X : Type 0} (p : ℕ → Bool) (xs : List X) (start end : ℕ) → start ≤ end → end ≤ length xs
    → ((k : ℕ) → k < length xs → p k ≡ not (within start end k)) → pick p xs ≡ take start xs ++ drop end xs
pick-outside p xs start end ordered short test =
    let before : length (take start xs) ≡ start = omega (arith, length-take start xs) in
    let inside : length (slice_range xs start end) ≡ end - start =
    omega (arith, length-take (end - start) (drop start xs), length-drop start xs) in
    let behind : length (drop end xs) ≡ length xs - end = length-drop end xs in
    ap (pick p) (three_parts xs start end ordered)
    ∙ pick-three p (take start xs) (slice_range xs start end) (drop end xs)
    ∙ ap (λ ys. ys ++ (pick (λ k. p (length (take start xs) + k)) (slice_range xs start end) ++ pick
    (λ k. p (length (take start xs) + (length (slice_range xs start end) + k))) (drop end xs)))
    (pick-all p (take start xs) (λ k low. test k (omega arith)
    ∙ ap not (within-before start end k (omega arith))))
    ∙ ap (λ ys. take start xs ++ (ys ++ pick
    (λ k. p (length (take start xs) + (length (slice_range xs start end) + k))) (drop end xs)))
    (pick-none (λ k. p (length (take start xs) + k)) (slice_range xs start end)
    (λ k low. test (length (take start xs) + k) (omega arith)
    ∙ ap not (within-inside start end _ (omega arith) (omega arith))))
    ∙ ap (λ ys. take start xs ++ ys) (pick-all
    (λ k. p (length (take start xs) + (length (slice_range xs start end) + k))) (drop end xs)
    (λ k low. test (length (take start xs) + (length (slice_range xs start end) + k)) (omega arith)
    ∙ ap not (within-behind start end _ (omega arith))))
