-- A test of each of a list, one after another.
use Rattle.std.proofs.Common.{◌≡◌, ◌∙◌, refl, sym, ap, ℕ, ◌+◌, ◌<◌, ◌≤◌, List, [], ◌∷◌, ◌++◌, length, map, take, drop, get_or, Bool, true, false, ◌||◌}
use Rattle.std.specs.List.{list_any}
use Rattle.std.proofs.lemmas.List.{map-append, take-append-drop, take_more, take_all}
use Rattle.std.proofs.lemmas.List.Folds.{list_any-append}

or-none : (b : Bool) → (b || false) ≡ b
or-none true = refl
or-none false = refl

module _ {A B : Type 0} (p : B → Bool) (f : A → B) where
  any-split : (xs : List A) (n : ℕ)
      → list_any p (map f xs) ≡ (list_any p (map f (take n xs)) || list_any p (map f (drop n xs)))
  any-split xs n = ap (λ (l : List A). list_any p (map f l)) (sym (take-append-drop n xs))
      ∙ ap (list_any p) (map-append f (take n xs) (drop n xs))
      ∙ list_any-append p (map f (take n xs)) (map f (drop n xs))

  any-taken : (xs : List A) (i : ℕ) (x : A) → i < length xs → x ≡ get_or xs i x
      → list_any p (map f (take (i + 1) xs)) ≡ (list_any p (map f (take i xs)) || p (f x))
  any-taken xs i x within is =
      ap (λ (l : List A). list_any p (map f l)) (take_more xs i x within)
      ∙ ap (λ (y : A). list_any p (map f (take i xs ++ y ∷ []))) (sym is)
      ∙ ap (list_any p) (map-append f (take i xs) (x ∷ []))
      ∙ list_any-append p (map f (take i xs)) (f x ∷ [])
      ∙ ap (λ (b : Bool). list_any p (map f (take i xs)) || b) (or-none (p (f x)))

  -- this one passes
  pub any-found : (xs : List A) (i : ℕ) (x : A) → i < length xs → x ≡ get_or xs i x
      → list_any p (map f (take i xs)) ≡ false → p (f x) ≡ true → true ≡ list_any p (map f xs)
  any-found xs i x within is none passes =
      sym (any-split xs (i + 1) ∙ ap (λ (b : Bool). b || list_any p (map f (drop (i + 1) xs)))
      (any-taken xs i x within is ∙ ap (λ (b : Bool). b || p (f x)) none ∙ passes))

  -- and this one doesn't
  pub any-more : (xs : List A) (i : ℕ) (x : A) → i < length xs → x ≡ get_or xs i x
      → list_any p (map f (take i xs)) ≡ false → p (f x) ≡ false → list_any p (map f (take (i + 1) xs)) ≡ false
  any-more xs i x within is none fails = any-taken xs i x within is ∙ ap (λ (b : Bool). b || p (f x)) none ∙ fails

  pub any-none : (xs : List A) (i : ℕ) → length xs ≤ i → list_any p (map f (take i xs)) ≡ false
      → false ≡ list_any p (map f xs)
  any-none xs i all none = sym (ap (λ (l : List A). list_any p (map f l)) (sym (take_all i xs all)) ∙ none)
