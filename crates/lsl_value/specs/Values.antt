-- Values: kind, charge and truth.
use Rattle.std.specs.Prelude.{ℕ, Bool, false, not, ◌&&◌, nat_lt, length, pos}
use Rattle.std.specs.Ordering.{int_eq}
use Rattle.std.specs.Str.{bytes_eq}
use Rattle.lsl_value.specs.Text.{text_charge_of}
use Rattle.lsl_value.specs.Atoms.{list_charge_of}
use Rattle.lsl_value.specs.Equality.{same_atoms}
use Rattle.lsl_value.specs.Key.{is_valid_key, is_null_key}
use Rattle.lsl_value.specs.declared.list.Atom.{Atom}
use Rattle.lsl_value.specs.declared.list.Atom.TheVariants.{Int as AtomInt, Str as AtomStr, Key as AtomKey}
use Rattle.lsl_value.specs.declared.tagged.Kind.{Kind}
use Rattle.lsl_value.specs.declared.tagged.Kind.TheVariants.{Int as IntKind, Str as StrKind, Key as KeyKind, List as ListKind}
use Rattle.lsl_value.specs.declared.tagged.Value.{Value}
use Rattle.lsl_value.specs.declared.tagged.Value.TheVariants.{Int, Str, Key, List as ListValue}

abbrev pub kind_of : Value → Kind
kind_of (Int n) = IntKind
kind_of (Str text) = StrKind
kind_of (Key text) = KeyKind
kind_of (ListValue atoms) = ListKind

-- an integer is charged 8, a text or key 16 and its bytes, a list 16 and its elements
abbrev pub charge_of : Value → ℕ
charge_of (Int n) = 8
charge_of (Str text) = text_charge_of text
charge_of (Key text) = text_charge_of text
charge_of (ListValue atoms) = list_charge_of atoms

-- a nonzero integer, a nonempty text or list, and a valid key but the key of zeros hold
abbrev pub truth_of : Value → Bool
truth_of (Int n) = not (int_eq n (pos 0))
truth_of (Str text) = nat_lt 0 (length text)
truth_of (Key text) = is_valid_key text && not (is_null_key text)
truth_of (ListValue atoms) = nat_lt 0 (length atoms)

-- the element as a value
abbrev pub value_of_atom : Atom → Value
value_of_atom (AtomInt n) = Int n
value_of_atom (AtomStr text) = Str text
value_of_atom (AtomKey text) = Key text

-- whether two values are the same, kind and all
abbrev pub same_value : Value → Value → Bool
same_value (Int a) (Int b) = int_eq a b
same_value (Int a) (Str b) = false
same_value (Int a) (Key b) = false
same_value (Int a) (ListValue b) = false
same_value (Str a) (Int b) = false
same_value (Str a) (Str b) = bytes_eq a b
same_value (Str a) (Key b) = false
same_value (Str a) (ListValue b) = false
same_value (Key a) (Int b) = false
same_value (Key a) (Str b) = false
same_value (Key a) (Key b) = bytes_eq a b
same_value (Key a) (ListValue b) = false
same_value (ListValue a) (Int b) = false
same_value (ListValue a) (Str b) = false
same_value (ListValue a) (Key b) = false
same_value (ListValue a) (ListValue b) = same_atoms a b
