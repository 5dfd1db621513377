-- A table of labels by their numbers.
use Rattle.std.specs.Prelude.{◌≡◌, ℕ, ◌-◌, nat_eq, nat_lt, cond, List, Option, Some, None, get_or}
use Rattle.lsl_gen.specs.declared.label_places.LabelPlace.{LabelPlace}
use Rattle.lsl_gen.specs.OpenJumps.{found_place}

-- what entry k is where a place is entered at this one, unless it has one before
abbrev pub unless_told : Option ℕ → ℕ → ℕ → ℕ → Option ℕ
unless_told (Some before) k entry place = Some before
unless_told None k entry place = cond (nat_eq k entry) (Some place) None

-- the place that a table has for this number, where its first entry is for the first number
abbrev pub place_at : ℕ → List (Option ℕ) → ℕ → Option ℕ
place_at first places label = cond (nat_lt label first) None (get_or places (label - first) None)

-- the table has the place of each label, of the first one where several have its number
pub record IsIndexed (first : ℕ) (places : List (Option ℕ)) (labels : List LabelPlace) : Type 0 where
  pub found : (label : ℕ) → place_at first places label ≡ found_place label labels
