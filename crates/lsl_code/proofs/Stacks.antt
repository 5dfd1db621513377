-- Topmost elements are taken off a list that is kept the other way round.
use Rattle.std.proofs.lemmas.Bool.Decides.{nat_tests}
use Rattle.std.proofs.lemmas.List.{take-append-drop, reverse-append, length-reverse, length-drop, reverse-reverse}
use Rattle.std.proofs.Math.Seq.{drop-append_seam}
use Rattle.std.proofs.Common.{◌≤◌, length, take, reverse, Bool, true, false, nat_lt, ◌≡◌, ℕ, zero, suc, ◌+◌, ◌-◌, ◌<◌, List, [], ◌∷◌, drop, Option, Some, None, MatchOption, ◌++◌, refl, sym, ap, ◌∙◌, ap₂, arith, option_to_list}

drop_none : {T : Type 0} (n : ℕ) → drop {A = T} n [] ≡ []
drop_none zero = refl
drop_none (suc n) = refl

pub pop_step : {T : Type 0} (n i : ℕ) (o : Option T) (old new w : List T) → i < n → old ≡ option_to_list o ++ new
    → drop (n - i) old ≡ w → MatchOption o (old ≡ []) (λ x. old ≡ x ∷ new) → drop (n - (i + 1)) new ≡ w
pop_step n i None old new w lt e h m =
    ap (drop (n - (i + 1))) (sym e ∙ m) ∙ drop_none (n - (i + 1)) ∙ sym (drop_none (n - i))
    ∙ ap (drop (n - i)) (sym m) ∙ h
pop_step n i (Some x) old new w lt e h m =
    let k : suc (n - (i + 1)) ≡ n - i = omega arith in
    ap₂ drop k (sym e) ∙ h

drop_over : {T : Type 0} (xs : List T) (c : ℕ) → length xs ≤ c → drop c xs ≡ []
drop_over [] c le = drop_none c
drop_over (x ∷ xs) zero le = absurd (omega arith)
drop_over (x ∷ xs) (suc c) le = drop_over xs c (omega arith)

-- the first of a list, from its end
pub below : {T : Type 0} (xs : List T) (c : ℕ) → take (length xs - c) xs ≡ reverse (drop c (reverse xs))
below {T} xs c = by_length (nat_lt (length xs) c) refl
  where
    by_length : (b : Bool) → nat_lt (length xs) c ≡ b → take (length xs - c) xs ≡ reverse (drop c (reverse xs))
    by_length true e =
        let lt : length xs < c = grind (arith, nat_tests) in
        let z : length xs - c ≡ 0 = omega arith in
        let le : length (reverse xs) ≤ c = omega (arith, length-reverse xs) in
        ap (λ n. take n xs) z ∙ sym (ap reverse (drop_over (reverse xs) c le))
    by_length false e =
        let le : c ≤ length xs = grind (arith, nat_tests) in
        let m = length xs - c in
        let b = take m xs in
        let a = drop m xs in
        let whole : reverse xs ≡ reverse a ++ reverse b =
        ap reverse (sym (take-append-drop m xs)) ∙ reverse-append b a in
        let len : c ≡ length (reverse a) = omega (arith, length-reverse a, length-drop m xs) in
        sym (ap reverse (ap₂ drop len whole ∙ drop-append_seam (reverse a) (reverse b)) ∙ reverse-reverse b)
