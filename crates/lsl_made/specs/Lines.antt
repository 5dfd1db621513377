-- The lines of a generated world: words with one space between, and a line feed.
use Rattle.std.specs.Prelude.{ℕ, List, [], ◌∷◌, ◌++◌, codes, decimal}
use Rattle.std.specs.List.{join_with_byte}
use Rattle.lsl_text.specs.Quoted.{quoted}
use Rattle.lsl_made.specs.declared.step.Region.{Region}
use Rattle.lsl_made.specs.declared.step.Region.TheVariants.{A, B}
use Rattle.lsl_made.specs.declared.step.Step.{Step}
use Rattle.lsl_made.specs.declared.step.Step.TheVariants.{Touch, Clock, Go, Run, Cross, Pause, Say}

abbrev pub line : List (List ℕ) → List ℕ
line words = join_with_byte 32 words ++ 10 ∷ []

-- the key that ends in these digits after zeros
abbrev pub key : List ℕ → List ℕ
key digits = codes "00000000-0000-0000-0000-0000000000" ++ digits

abbrev pub toucher_key : List ℕ
toucher_key = key (codes "aa")

abbrev pub toucher_name : List ℕ
toucher_name = quoted (codes "Ann")

abbrev pub region_name : Region → List ℕ
region_name A = quoted (codes "A")
region_name B = quoted (codes "B")

-- the words of a step
abbrev pub step_words : Step → List (List ℕ)
step_words (Touch object) = codes "touch" ∷ decimal object ∷ codes "0" ∷ toucher_key ∷ toucher_name ∷ []
step_words (Clock reading) = codes "clock" ∷ decimal reading ∷ []
step_words (Go script ticks) = codes "go" ∷ decimal script ∷ decimal ticks ∷ []
step_words (Run ticks) = codes "run" ∷ decimal ticks ∷ []
step_words (Cross object region) = codes "cross" ∷ decimal object ∷ region_name region ∷ []
step_words (Pause gap) = codes "pause" ∷ decimal gap ∷ []
step_words (Say said) = codes "say" ∷ codes "9" ∷ toucher_name ∷ toucher_key ∷ (34 ∷ decimal said ++ 34 ∷ []) ∷ []

-- the words of an object, which has its number in its key and in its name, O and the number
abbrev pub object_words : ℕ → List (List ℕ)
object_words object =
    codes "object"
    ∷ key (codes "0" ++ decimal object)
    ∷ (34 ∷ 79 ∷ decimal object ++ 34 ∷ [])
    ∷ key (codes "99")
    ∷ region_name A
    ∷ []

-- the words of each object's script
abbrev pub script_words : List (List ℕ)
script_words = codes "script" ∷ quoted (codes "w") ∷ quoted (codes "walker") ∷ []
