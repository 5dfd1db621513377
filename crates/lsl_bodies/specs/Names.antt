-- Names in the order of their declaration, the latest first.
use Rattle.std.specs.Prelude.{◌≡◌, ℕ, Option, Some, None, List, [], ◌∷◌, ◌++◌, length, Contains, if◌then◌else◌}
use Rattle.std.specs.Str.{bytes_eq}

-- the number of the latest of this name: how many were declared before it
abbrev pub nearest : List ℕ → List (List ℕ) → Option ℕ
nearest name [] = None
nearest name (x ∷ xs) = if bytes_eq x name then Some (length xs) else nearest name xs

-- no later one has this name
pub record IsNearest (name : List ℕ) (names : List (List ℕ)) (number : ℕ) : Type 0 where
  pub later : List (List ℕ)
  pub earlier : List (List ℕ)
  pub split : names ≡ later ++ name ∷ earlier
  pub first : Contains later name → ⊥
  pub numbered : number ≡ length earlier
