-- How the program is called, and the file that a status is about.
use Rattle.std.specs.Prelude.{ℕ, codes, List, [], ◌∷◌, ◌++◌, map, Option, Some, None, if◌then◌else◌}
use Rattle.std.specs.Prelude.{String, string_bytes}
use Rattle.std.specs.Str.{bytes_eq}
use Rattle.lsl_top.specs.declared.status.Status.{Status}
use Rattle.lsl_top.specs.declared.status.Status.TheVariants.{BadImage}

-- how the program is called, as a line
abbrev pub usage : List ℕ
usage = codes "usage: lsl once FILE | check FILE | replay [--lossy] WORLD | freeze WORLD | thaw FROZEN WORLD"
    ++ codes " | view FROZEN WORLD | make NUMBER\n"

-- of two files the frozen one comes first: it is the one that isn't of the world
abbrev pub one_of_two : Status → List ℕ → List ℕ → List ℕ
one_of_two BadImage frozen world = frozen
one_of_two status frozen world = world

-- the file that the words name and a status is about; `make` is followed by a number
abbrev pub named_in : Status → List (List ℕ) → Option (List ℕ)
named_in status (word ∷ file ∷ []) = if bytes_eq word (codes "make") then None else Some file
named_in status (word ∷ frozen ∷ world ∷ []) = Some (one_of_two status frozen world)
named_in status _ = None

abbrev pub file_in : {Z : Type 0} → Status → List (String Z) → Option (List ℕ)
file_in status words = named_in status (map string_bytes words)
