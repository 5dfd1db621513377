-- Arguments of a pure call: of which kinds they are, and how a value is read as one of a kind.
use Rattle.std.specs.Prelude.{◌≡◌, ℕ, suc, ℤ, pos, List, [], ◌∷◌, map, slice_index_or}
use Rattle.lsl_value.specs.Values.{kind_of}
use Rattle.lsl_value.specs.declared.list.Atom.{Atom}
use Rattle.lsl_value.specs.declared.names.BuiltinId.{BuiltinId}
use Rattle.lsl_value.specs.declared.tagged.Kind.{Kind}
use Rattle.lsl_value.specs.declared.tagged.Kind.TheVariants.{Int as IntKind, Str as StrKind, Key as KeyKind, List as ListKind}
use Rattle.lsl_value.specs.declared.tagged.Value.{Value}
use Rattle.lsl_value.specs.declared.tagged.Value.TheVariants.{Int, Str, Key, List as ListValue}
use Rattle.lsl_table.specs.Calls.{row_of}
use Rattle.lsl_table.specs.declared.calls.Home.TheVariants.{Pure}

-- the call is a pure one, and these are arguments of its row's kinds
pub record IsArguments (id : BuiltinId) (args : List Value) : Type 0 where
  pub pure : (row_of id).home ≡ Pure
  pub kinds : map kind_of args ≡ (row_of id).params

-- the argument at a place, and the integer 0 behind the last one
abbrev pub value_at : List Value → ℕ → Value
value_at args k = slice_index_or args k (Int (pos 0))

-- what a value has as an integer, a text or a list; a value of another kind has the empty one
abbrev pub int_of : Value → ℤ
int_of (Int n) = n
int_of (Str text) = pos 0
int_of (Key text) = pos 0
int_of (ListValue atoms) = pos 0

abbrev pub text_of : Value → List ℕ
text_of (Int n) = []
text_of (Str text) = text
text_of (Key text) = []
text_of (ListValue atoms) = []

abbrev pub key_of : Value → List ℕ
key_of (Int n) = []
key_of (Str text) = []
key_of (Key text) = text
key_of (ListValue atoms) = []

abbrev pub atoms_of : Value → List Atom
atoms_of (Int n) = []
atoms_of (Str text) = []
atoms_of (Key text) = []
atoms_of (ListValue atoms) = atoms

-- the value read as one of a kind: itself where it has that kind
abbrev pub read_as : Kind → Value → Value
read_as IntKind value = Int (int_of value)
read_as StrKind value = Str (text_of value)
read_as KeyKind value = Key (key_of value)
read_as ListKind value = ListValue (atoms_of value)

-- the arguments from a place on, read as of these kinds
abbrev pub read_from : ℕ → List Kind → List Value → List Value
read_from k [] args = []
read_from k (kind ∷ kinds) args = read_as kind (value_at args k) ∷ read_from (suc k) kinds args

-- the arguments, read as of their row's kinds: themselves where they are of those kinds
abbrev pub read_arguments : BuiltinId → List Value → List Value
read_arguments id args = read_from 0 (row_of id).params args
