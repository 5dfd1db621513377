-- Elements of lists, and what they are charged.
use Rattle.std.specs.Prelude.{◌≡◌, ℕ, ℤ, pos, ◌+◌, ◌*◌, ◌≤◌, List, length, sum_by}
use Rattle.lsl_text.specs.Number.{decimal_of}
use Rattle.lsl_value.specs.Limits.{most_items}
use Rattle.lsl_value.specs.Text.{integer_of_text, text_charge_of}
use Rattle.lsl_value.specs.declared.list.Atom.{Atom}
use Rattle.lsl_value.specs.declared.list.Atom.TheVariants.{Int, Str, Key}

-- an element's text: an integer's is its decimal
abbrev pub text_of_atom : Atom → List ℕ
text_of_atom (Int n) = decimal_of n
text_of_atom (Str text) = text
text_of_atom (Key text) = text

-- an element's integer: the one that a string begins with, and 0 for a key
abbrev pub integer_of_atom : Atom → ℤ
integer_of_atom (Int n) = n
integer_of_atom (Str text) = integer_of_text text
integer_of_atom (Key text) = pos 0

-- an integer is charged 8, a text or key 16 and its bytes
abbrev pub atom_charge_of : Atom → ℕ
atom_charge_of (Int n) = 8
atom_charge_of (Str text) = text_charge_of text
atom_charge_of (Key text) = text_charge_of text

-- an element is charged 8 more in its list
abbrev pub item_charge_of : Atom → ℕ
item_charge_of atom = 8 + atom_charge_of atom

-- a list is charged 16 and its elements
abbrev pub list_charge_of : List Atom → ℕ
list_charge_of atoms = 16 + sum_by item_charge_of atoms

-- what is kept beside the elements of a list
pub record IsKept (atoms : List Atom) (charge : ℕ) : Type 0 where
  pub within : length atoms ≤ most_items
  pub charged : charge ≡ list_charge_of atoms
  pub bounded : charge ≤ 16 + 1048600 * length atoms
