-- Kinds that a test tells to be the same are the same.
use Rattle.std.proofs.Common.{◌≡◌, ℕ, zero, suc, ◌+◌, List, [], ◌∷◌, reverse, Option, Some, None, Bool, true, false, refl, ap, ◌∙◌, subst, arith, slice_get}
use Rattle.std.specs.Prelude.{◌&&◌, nat_eq}
use Rattle.std.proofs.lemmas.Bool.Decides.{nat_tests}
use Rattle.lsl_value.specs.declared.tagged.Kind.{Kind}
use Rattle.lsl_value.specs.declared.tagged.Kind.TheVariants as kind
use Rattle.lsl_code.specs.Fits.{all_places, has_kinds}
use Rattle.lsl_code.specs.Kinds.{kind_number, same_kind, same_kinds}

pub both_true : (a b : Bool) → (a && b) ≡ true → (a ≡ true) × (b ≡ true)
both_true true b e = (refl, e)
both_true false b e = absurd cc

pub all_from : {A : Type 0} (test : ℕ → A → Bool) (k : ℕ) (xs : List A) (j : ℕ) (x : A)
    → all_places test k xs ≡ true → slice_get xs j ≡ Some x → test (k + j) x ≡ true
all_from test k [] j x h e = absurd cc
all_from test k (y ∷ xs) zero x h e =
    let z : k ≡ k + 0 = omega arith in
    let same : y ≡ x = cc in
    subst (λ n. test n x ≡ true) z (subst (λ v. test k v ≡ true) same (both_true (test k y) _ h).0)
all_from test k (y ∷ xs) (suc j) x h e =
    let z : suc k + j ≡ k + suc j = omega arith in
    subst (λ n. test n x ≡ true) z (all_from test (suc k) xs j x (both_true (test k y) _ h).1 e)

number_is : (a b : Kind) → kind_number a ≡ kind_number b → a ≡ b
number_is kind.Int kind.Int e = refl
number_is kind.Str kind.Str e = refl
number_is kind.Key kind.Key e = refl
number_is kind.List kind.List e = refl
number_is kind.Int kind.Str e = absurd cc
number_is kind.Int kind.Key e = absurd cc
number_is kind.Int kind.List e = absurd cc
number_is kind.Str kind.Int e = absurd cc
number_is kind.Str kind.Key e = absurd cc
number_is kind.Str kind.List e = absurd cc
number_is kind.Key kind.Int e = absurd cc
number_is kind.Key kind.Str e = absurd cc
number_is kind.Key kind.List e = absurd cc
number_is kind.List kind.Int e = absurd cc
number_is kind.List kind.Str e = absurd cc
number_is kind.List kind.Key e = absurd cc

pub eq_is : (m n : ℕ) → nat_eq m n ≡ true → m ≡ n
eq_is m n e = grind (arith, nat_tests)

pub same_is : (a b : Kind) → same_kind a b ≡ true → a ≡ b
same_is a b e = number_is a b (eq_is (kind_number a) (kind_number b) e)

pub sames_are : (js ks : List Kind) → same_kinds js ks ≡ true → js ≡ ks
sames_are [] [] e = refl
sames_are (a ∷ js) (b ∷ ks) e =
    let p = both_true (same_kind a b) _ e in
    ap (λ x. x ∷ js) (same_is a b p.0) ∙ ap (λ l. b ∷ l) (sames_are js ks p.1)
sames_are [] (b ∷ ks) e = absurd cc
sames_are (a ∷ js) [] e = absurd cc

pub shape_is : (o : Option (Option (List Kind))) (ks : List Kind) → has_kinds o ks ≡ true
    → o ≡ Some (Some (reverse ks))
shape_is None ks e = absurd cc
shape_is (Some None) ks e = absurd cc
shape_is (Some (Some js)) ks e = ap (λ l. Some (Some l)) (sames_are js (reverse ks) e)
