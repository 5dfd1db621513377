-- Kinds of values compared, and the kinds of functions and units.
use Rattle.std.specs.Prelude.{ℕ, Bool, true, false, ◌&&◌, nat_eq, List, [], ◌∷◌, length, map, Option}
use Rattle.lsl_value.specs.Values.{kind_of}
use Rattle.lsl_value.specs.declared.names.BuiltinId.{BuiltinId}
use Rattle.lsl_value.specs.declared.tagged.Kind.{Kind}
use Rattle.lsl_value.specs.declared.tagged.Kind.TheVariants as kind
use Rattle.lsl_value.specs.declared.tagged.Value.{Value}
use Rattle.lsl_table.specs.Calls.{row_of}
use Rattle.lsl_code.specs.declared.functions.StateCode.{StateCode}
use Rattle.lsl_code.specs.declared.signatures.Signature.{Signature}
use Rattle.lsl_code.specs.declared.signatures.Names.{Names}
use Rattle.lsl_code.specs.Bodies.{Body}

abbrev pub kinds_of : List Value → List Kind
kinds_of values = map kind_of values

abbrev pub kind_number : Kind → ℕ
kind_number kind.Int = 0
kind_number kind.Str = 1
kind_number kind.Key = 2
kind_number kind.List = 3

abbrev pub same_kind : Kind → Kind → Bool
same_kind a b = nat_eq (kind_number a) (kind_number b)

abbrev pub same_kinds : List Kind → List Kind → Bool
same_kinds [] [] = true
same_kinds (a ∷ js) (b ∷ ks) = same_kind a b && same_kinds js ks
same_kinds [] (b ∷ ks) = false
same_kinds (a ∷ js) [] = false

-- a list's elements aren't lists
abbrev pub is_element : Kind → Bool
is_element kind.List = false
is_element k = true

-- what an instruction can name in a function of a unit with these names
pub record Scope : Type 0 where
  pub globals : List Kind
  pub functions : List Signature
  pub states : ℕ
  pub slots : List Kind
  pub result : Option Kind

abbrev pub scope : Names → List Kind → Option Kind → Scope
scope names slots result =
    record
    { globals = names.globals; functions = names.functions; states = names.states; slots = slots; result = result }

-- what a built-in call takes and gives
abbrev pub builtin_signature : BuiltinId → Signature
builtin_signature id = record { params = (row_of id).params; result = (row_of id).result }

abbrev pub signature_in : Body → Signature
signature_in body = record { params = body.params; result = body.result }

abbrev pub names_in : List Value → List StateCode → List Body → Names
names_in globals states bodies =
    record { globals = kinds_of globals; functions = map signature_in bodies; states = length states }
