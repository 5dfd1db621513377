-- Elements of a list: the one at a place, and what it is as an integer, a text, a key and a type.
use Rattle.std.specs.Prelude.{ℕ, ℤ, pos, negsuc, List, [], length, Option, Some, None, slice_get}
use Rattle.lsl_value.specs.Atoms.{integer_of_atom, text_of_atom}
use Rattle.lsl_value.specs.declared.list.Atom.{Atom}
use Rattle.lsl_value.specs.declared.list.Atom.TheVariants.{Int, Str, Key}
use Rattle.lsl_pure.specs.Places.{place_of}

abbrev pub element_from_start : List Atom → ℤ → Option Atom
element_from_start atoms (pos k) = slice_get atoms k
element_from_start atoms (negsuc k) = None

-- the element at a place that may count from the end; none outside of the list
abbrev pub element_at : List Atom → ℤ → Option Atom
element_at atoms p = element_from_start atoms (place_of (length atoms) p)

-- 0 for no element
abbrev pub integer_of : Option Atom → ℤ
integer_of (Some atom) = integer_of_atom atom
integer_of None = pos 0

-- no character for no element
abbrev pub string_of : Option Atom → List ℕ
string_of (Some atom) = text_of_atom atom
string_of None = []

-- no character for an integer or no element
abbrev pub key_of : Option Atom → List ℕ
key_of (Some (Int n)) = []
key_of (Some (Str text)) = text
key_of (Some (Key text)) = text
key_of None = []

-- TYPE_INTEGER, TYPE_STRING, TYPE_KEY, and TYPE_INVALID for no element
abbrev pub type_of : Option Atom → ℤ
type_of (Some (Int n)) = pos 1
type_of (Some (Str text)) = pos 3
type_of (Some (Key text)) = pos 4
type_of None = pos 0
