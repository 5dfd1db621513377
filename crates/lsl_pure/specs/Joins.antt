-- Texts of a list's elements, joined.
use Rattle.std.specs.Prelude.{ℕ, List, [], ◌∷◌, ◌++◌, map, codes}
use Rattle.lsl_value.specs.declared.list.Atom.{Atom}
use Rattle.lsl_value.specs.Atoms.{text_of_atom}

-- each text behind a separator
abbrev pub each_behind : List ℕ → List (List ℕ) → List ℕ
each_behind separator [] = []
each_behind separator (text ∷ texts) = separator ++ text ++ each_behind separator texts

-- the texts with the separator between them
abbrev pub joined : List ℕ → List (List ℕ) → List ℕ
joined separator [] = []
joined separator (text ∷ texts) = text ++ each_behind separator texts

-- the elements' texts with the separator between them
abbrev pub dumped : List Atom → List ℕ → List ℕ
dumped atoms separator = joined separator (map text_of_atom atoms)

-- the elements' texts with a comma and a space between them
abbrev pub csv_text : List Atom → List ℕ
csv_text atoms = dumped atoms (codes ", ")
