-- What makes tests true.
use Rattle.std.proofs.Common.{◌≡◌, ℕ, zero, suc, ◌+◌, ◌<◌, List, [], ◌∷◌, length, take, Some, Bool, true, false, refl, sym, ap, ◌∙◌, subst, arith, slice_get}
use Rattle.std.specs.Prelude.{◌&&◌, nat_eq, nat_lt}
use Rattle.std.proofs.lemmas.Bool.Decides.{nat_tests}
use Rattle.lsl_value.specs.declared.tagged.Kind.{Kind}
use Rattle.lsl_code.specs.Fits.{all_places}
use Rattle.lsl_code.specs.Kinds.{kind_number, same_kind, same_kinds}

pub both : (a b : Bool) → a ≡ true → b ≡ true → (a && b) ≡ true
both a b e f = ap (λ x. x && b) e ∙ f

pub eq_self : (n : ℕ) → nat_eq n n ≡ true
eq_self n = grind (arith, nat_tests)

pub same_self : (k : Kind) → same_kind k k ≡ true
same_self k = eq_self (kind_number k)

pub sames_self : (ks : List Kind) → same_kinds ks ks ≡ true
sames_self [] = refl
sames_self (k ∷ ks) = both _ _ (same_self k) (sames_self ks)

pub sames : (js ks : List Kind) → js ≡ ks → same_kinds js ks ≡ true
sames js ks e = ap (same_kinds js) (sym e) ∙ sames_self js

pub eqs : (m n : ℕ) → m ≡ n → nat_eq m n ≡ true
eqs m n e = grind (arith, nat_tests)

pub less : (m n : ℕ) → m < n → nat_lt m n ≡ true
less m n lt = grind (arith, nat_tests)

pub differs : (m n : ℕ) → m < n → nat_eq m n ≡ false
differs m n lt = grind (arith, nat_tests)

pub differs' : (m n : ℕ) → m < n → nat_eq n m ≡ false
differs' m n lt = grind (arith, nat_tests)

all_if_from : {A : Type 0} (test : ℕ → A → Bool) (k : ℕ) (xs : List A)
    → ((j : ℕ) (x : A) → slice_get xs j ≡ Some x → test (k + j) x ≡ true) → all_places test k xs ≡ true
all_if_from test k [] h = refl
all_if_from test k (x ∷ xs) h =
    let z : k + 0 ≡ k = omega arith in
    both _ _ (subst (λ n. test n x ≡ true) z (h 0 x refl))
    (all_if_from test (suc k) xs (λ j y e. next j y (h (suc j) y e)))
  where
    next : (j : ℕ) (y : _) → test (k + suc j) y ≡ true → test (suc k + j) y ≡ true
    next j y e = let z : k + suc j ≡ suc k + j = omega arith in subst (λ n. test n y ≡ true) z e

-- the test holds of all elements where it holds of each
pub all_if : {A : Type 0} (test : ℕ → A → Bool) (xs : List A)
    → ((j : ℕ) (x : A) → slice_get xs j ≡ Some x → test j x ≡ true) → all_places test 0 xs ≡ true
all_if test xs h = all_if_from test 0 xs (λ j x e. same j x (h j x e))
  where
    same : (j : ℕ) (x : _) → test j x ≡ true → test (0 + j) x ≡ true
    same j x e = let z : j ≡ 0 + j = omega arith in subst (λ n. test n x ≡ true) z e

pub take_length : {A : Type 0} (n : ℕ) (xs : List A) → take (length (take n xs)) xs ≡ take n xs
take_length zero xs = refl
take_length (suc n) [] = refl
take_length (suc n) (x ∷ xs) = ap (λ l. x ∷ l) (take_length n xs)

pub within_list : {A : Type 0} (xs : List A) (j : ℕ) (x : A) → slice_get xs j ≡ Some x → j < length xs
within_list [] j x e = absurd cc
within_list (y ∷ xs) zero x e = omega arith
within_list (y ∷ xs) (suc j) x e = let lt = within_list xs j x e in omega arith
