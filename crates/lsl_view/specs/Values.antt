-- Values as words of a line.
use Rattle.std.specs.Prelude.{ℕ, List, [], ◌∷◌, ◌++◌, map}
use Rattle.std.specs.List.{flat_map}
use Rattle.lsl_text.specs.Number.{decimal_of}
use Rattle.lsl_value.specs.declared.list.Atom.{Atom}
use Rattle.lsl_value.specs.declared.list.Atom.TheVariants as atom
use Rattle.lsl_value.specs.declared.tagged.Value.{Value}
use Rattle.lsl_value.specs.declared.tagged.Value.TheVariants.{Int, Str, Key, List as ListValue}
use Rattle.lsl_lines.specs.Journal.{text_word}

abbrev pub element_word : Atom → List ℕ
element_word (atom.Int n) = decimal_of n
element_word (atom.Str text) = text_word text
element_word (atom.Key text) = text_word text

-- after a comma and a space
abbrev pub behind_comma : List ℕ → List ℕ
behind_comma word = 44 ∷ 32 ∷ word

-- the elements with a comma and a space between them
abbrev pub elements_of : List Atom → List ℕ
elements_of [] = []
elements_of (first ∷ others) = element_word first ++ flat_map behind_comma (map element_word others)

-- an integer in decimal, a string or key in quotes, a list in brackets
abbrev pub value_word : Value → List ℕ
value_word (Int n) = decimal_of n
value_word (Str text) = text_word text
value_word (Key text) = text_word text
value_word (ListValue atoms) = 91 ∷ (elements_of atoms ++ 93 ∷ [])
