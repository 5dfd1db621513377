-- One more line or word was appended, as it is shown.
use Rattle.std.proofs.Common.{◌≡◌, ◌∙◌, refl, sym, ap, subst, ℕ, zero, suc, ◌+◌, List, [], ◌∷◌, ◌++◌, map, take, Some, slice_get}
use Rattle.std.specs.List.{AllByRecursion, flat_map}
use Rattle.lsl_image.proofs.WroteLemmas.{wrote-at}

module _ {X Y : Type 0} (f : Y → List ℕ) (g : X → Y) where
  mapped : (xs : List X) → flat_map f (map g xs) ≡ flat_map (λ (x : X). f (g x)) xs
  mapped [] = refl
  mapped (x ∷ xs) = ap (λ (l : List ℕ). f (g x) ++ l) (mapped xs)

  pub one-more : (xs : List X) (i : ℕ) (x : X) (start now new : List ℕ) → Some x ≡ slice_get xs i
      → now ≡ start ++ flat_map f (map g (take i xs)) → new ≡ now ++ f (g x)
      → new ≡ start ++ flat_map f (map g (take (i + 1) xs))
  one-more xs i x start now new is before more =
      wrote-at (λ (y : X). f (g y)) xs i x start now new is
      (before ∙ ap (λ (l : List ℕ). start ++ l) (mapped (take i xs))) more
      ∙ ap (λ (l : List ℕ). start ++ l) (sym (mapped (take (i + 1) xs)))

-- what holds of each call holds of the one of a number
pub call-at : {X : Type 0} (P : X → Type 0) (xs : List X) (i : ℕ) (x : X) → AllByRecursion P xs
    → slice_get xs i ≡ Some x → P x
call-at P [] i x all is = absurd cc
call-at P (y ∷ xs) zero x all is = let same : y ≡ x = cc in subst P same all.0
call-at P (y ∷ xs) (suc i) x all is = call-at P xs i x all.1 is
