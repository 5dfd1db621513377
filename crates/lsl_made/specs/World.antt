-- The text of a generated world: its lines one after the other.
use Rattle.std.specs.Prelude.{ℕ, List, [], ◌∷◌, ◌++◌, map, codes}
use Rattle.std.specs.List.{flat_map, range_with_len}
use Rattle.lsl_made.specs.Lines.{line, object_words, script_words, step_words}
use Rattle.lsl_made.specs.Steps.{steps_of}

-- the lines of the eight objects, each with its script
unfoldable pub object_lines : List (List (List ℕ))
object_lines = flat_map (λ object. object_words object ∷ script_words ∷ []) (range_with_len 1 8)

unfoldable pub step_lines : ℕ → List (List (List ℕ))
step_lines number = map step_words (steps_of number)

-- all lines: the objects, `begin`, the steps, `end`
unfoldable pub world_lines : ℕ → List (List (List ℕ))
world_lines number =
    object_lines ++ ((codes "begin" ∷ []) ∷ step_lines number ++ (codes "end" ∷ []) ∷ [])

unfoldable pub world_text : ℕ → List ℕ
world_text number = flat_map line (world_lines number)
