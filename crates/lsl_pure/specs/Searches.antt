-- The first place at which one list stands in another.
use Rattle.std.specs.Prelude.{ℕ, zero, suc, ℤ, pos, negsuc, Bool, if◌then◌else◌, List, [], ◌∷◌, Option, Some, None}
use Rattle.std.specs.List.{starts_with}
use Rattle.std.specs.Option.{option_map}

-- the least place at which the second list's elements follow one another in the first; none where there is none
abbrev pub first_place : {X : Type 0} → (X → X → Bool) → List X → List X → Option ℕ
first_place same [] sought = if starts_with same [] sought then Some zero else None
first_place same (x ∷ xs) sought =
    if starts_with same (x ∷ xs) sought then Some zero else option_map suc (first_place same xs sought)

-- the place as an integer, and -1 for none
abbrev pub place_or_none : Option ℕ → ℤ
place_or_none (Some k) = pos k
place_or_none None = negsuc 0
