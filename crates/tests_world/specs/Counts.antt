-- The number of operands before each instruction of the sample's woven code.
use Rattle.std.specs.Prelude.{ℕ, List, [], ◌∷◌, Option, Some, None, length, map, option_map}
use Rattle.lsl_value.specs.declared.tagged.Kind.{Kind}

abbrev pub counts : List (Option (List Kind)) → List (Option ℕ)
counts stacks = map (option_map length) stacks

abbrev pub running_counts : List (Option ℕ)
running_counts =
    Some 0 ∷ Some 0 ∷ Some 0 ∷ Some 0 ∷ Some 1 ∷ Some 1 ∷ Some 1 ∷ Some 0 ∷ None ∷ None ∷ None ∷ None ∷ None ∷
    None ∷ None ∷ None ∷ None ∷ None ∷ None ∷ None ∷ None ∷ None ∷ None ∷ None ∷ []

abbrev pub saving_counts : List (Option ℕ)
saving_counts =
    None ∷ None ∷ Some 0 ∷ None ∷ None ∷ Some 1 ∷ None ∷ None ∷ Some 0 ∷ Some 0 ∷ Some 1 ∷ Some 0 ∷ Some 0 ∷ None
    ∷ None ∷ None ∷ None ∷ None ∷ None ∷ None ∷ None ∷ None ∷ None ∷ None ∷ []

abbrev pub restoring_counts : List (Option ℕ)
restoring_counts =
    Some 0 ∷ None ∷ None ∷ None ∷ None ∷ None ∷ None ∷ None ∷ None ∷ None ∷ None ∷ None ∷ None ∷ Some 0 ∷ Some 0 ∷
    Some 0 ∷ Some 0 ∷ Some 0 ∷ Some 0 ∷ None ∷ Some 0 ∷ Some 0 ∷ Some 1 ∷ None ∷ []
