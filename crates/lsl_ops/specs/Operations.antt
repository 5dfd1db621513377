-- Operators and casts on values.
use Rattle.std.specs.Prelude.{◌==◌, ℕ, Bool, true, false, not, List, [], ◌∷◌, ◌++◌, length, ℤ, pos, ◌-ℤ◌}
use Rattle.std.specs.List.{flat_map}
use Rattle.std.specs.Ordering.{int_eq}
use Rattle.std.specs.Str.{bytes_eq}
use Rattle.lsl_text.specs.Number.{decimal_of}
use Rattle.lsl_value.specs.Atoms.{text_of_atom}
use Rattle.lsl_value.specs.Text.{integer_of_text}
use Rattle.lsl_value.specs.declared.list.Atom.{Atom}
use Rattle.lsl_value.specs.declared.list.Atom.TheVariants.{Int as IntAtom, Str as StrAtom, Key as KeyAtom}
use Rattle.lsl_value.specs.declared.operators.BinaryOp.{BinaryOp}
use Rattle.lsl_value.specs.declared.operators.BinaryOp.TheVariants.{Add, Equal, Unequal}
use Rattle.lsl_value.specs.declared.tagged.Kind.{Kind}
use Rattle.lsl_value.specs.declared.tagged.Kind.TheVariants.{Int as IntKind, Str as StrKind, Key as KeyKind, List as ListKind}
use Rattle.lsl_value.specs.declared.tagged.Value.{Value}
use Rattle.lsl_value.specs.declared.tagged.Value.TheVariants.{Int, Str, Key, List as ListValue}
use Rattle.lsl_ops.specs.Integers.{number_of, arithmetic_of, has_zero_divisor}

-- the integer that a text begins with; a key and a list have none
abbrev pub integer_of : Value → ℤ
integer_of (Int n) = n
integer_of (Str text) = integer_of_text text
integer_of (Key text) = pos 0
integer_of (ListValue atoms) = pos 0

-- a value's text: an integer's is its decimal, a list's is its elements' texts, one after another
abbrev pub text_of : Value → List ℕ
text_of (Int n) = decimal_of n
text_of (Str text) = text
text_of (Key text) = text
text_of (ListValue atoms) = flat_map text_of_atom atoms

-- a list's elements; any other value is one element
abbrev pub atoms_of : Value → List Atom
atoms_of (Int n) = IntAtom n ∷ []
atoms_of (Str text) = StrAtom text ∷ []
atoms_of (Key text) = KeyAtom text ∷ []
atoms_of (ListValue atoms) = atoms

-- what a cast to a kind gives
abbrev pub cast_of : Value → Kind → Value
cast_of value IntKind = Int (integer_of value)
cast_of value StrKind = Str (text_of value)
cast_of value KeyKind = Key (text_of value)
cast_of value ListKind = ListValue (atoms_of value)

-- a cast takes memory where it makes a text of an integer or a list, or a list of anything else
abbrev pub cast_takes_memory : Kind → Kind → Bool
cast_takes_memory IntKind StrKind = true
cast_takes_memory ListKind StrKind = true
cast_takes_memory IntKind ListKind = true
cast_takes_memory StrKind ListKind = true
cast_takes_memory KeyKind ListKind = true
cast_takes_memory from to = false

-- two integers are added; a list gains what is before or after it; two texts are joined
abbrev pub sum_of : Value → Value → Value
sum_of (Int a) (Int b) = Int (arithmetic_of Add a b)
sum_of (ListValue a) right = ListValue (a ++ atoms_of right)
sum_of left (ListValue b) = ListValue (atoms_of left ++ b)
sum_of left right = Str (text_of left ++ text_of right)

-- integers are equal, lists of one length are, and texts of the same characters are, strings or keys
abbrev pub are_equal : Value → Value → Bool
are_equal (Int a) (Int b) = int_eq a b
are_equal (ListValue a) (ListValue b) = length a == length b
are_equal left right = bytes_eq (text_of left) (text_of right)

-- 0 where they are equal, else 1; of two lists how much longer the left one is
abbrev pub difference_of : Value → Value → ℤ
difference_of (ListValue a) (ListValue b) = pos (length a) -ℤ pos (length b)
difference_of left right = number_of (not (are_equal left right))

-- what an operator between two values gives
abbrev pub binary_of : BinaryOp → Value → Value → Value
binary_of Add left right = sum_of left right
binary_of Equal left right = Int (number_of (are_equal left right))
binary_of Unequal left right = Int (difference_of left right)
binary_of op left right = Int (arithmetic_of op (integer_of left) (integer_of right))

-- a division or a remainder by 0
abbrev pub divides_by_zero : BinaryOp → Value → Bool
divides_by_zero op right = has_zero_divisor op (integer_of right)

-- an operator takes memory where it makes a text or a list
abbrev pub sum_takes_memory : Kind → Kind → Bool
sum_takes_memory IntKind IntKind = false
sum_takes_memory left right = true

abbrev pub binary_takes_memory : BinaryOp → Kind → Kind → Bool
binary_takes_memory Add left right = sum_takes_memory left right
binary_takes_memory op left right = false
