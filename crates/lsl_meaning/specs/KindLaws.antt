-- Laws of kinds: what a pure call takes and gives, and what operators and casts give.
use Rattle.std.specs.Prelude.{◌≡◌, ◌↔◌, List, map, Some}
use Rattle.lsl_value.specs.OperatorRows.{result_kind_of}
use Rattle.lsl_value.specs.Values.{kind_of}
use Rattle.lsl_value.specs.declared.names.BuiltinId.{BuiltinId}
use Rattle.lsl_value.specs.declared.operators.BinaryOp.{BinaryOp}
use Rattle.lsl_value.specs.declared.tagged.Kind.{Kind}
use Rattle.lsl_value.specs.declared.tagged.Value.{Value}
use Rattle.lsl_table.specs.Calls.{row_of}
use Rattle.lsl_table.specs.declared.calls.Home.TheVariants as home
use Rattle.lsl_ops.specs.Operations.{binary_of, cast_of}
use Rattle.lsl_pure.specs.Arguments.{IsArguments}
use Rattle.lsl_pure.specs.Pure.{pure_of}
use Rattle.lsl_tree.specs.Initials.{global_kinds}
use Rattle.lsl_tree.specs.Kinded.{IsKinded}
use Rattle.lsl_tree.specs.Program.{Program}
use Rattle.lsl_meaning.specs.Globals.{initial_globals}

-- the call's row says that it depends on its arguments alone
abbrev pub IsPure : BuiltinId → Type 0
IsPure id = (row_of id).home ≡ home.Pure

-- the calls that have a value of their arguments are those of the table, with the table's parameters
abbrev pub PureArgumentsAreTheRows : Type 0
PureArgumentsAreTheRows =
    (id : BuiltinId) (arguments : List Value)
    → IsArguments id arguments ↔ (IsPure id × (map kind_of arguments ≡ (row_of id).params))

-- a pure call gives a value of its row's kind
abbrev pub PureResultIsTheRows : Type 0
PureResultIsTheRows =
    (id : BuiltinId) (arguments : List Value) → IsPure id → (row_of id).result ≡ Some (kind_of (pure_of id arguments))

-- an operator gives a value of the kind that its operands' kinds have
abbrev pub OperatorsKeepKinds : Type 0
OperatorsKeepKinds =
    (op : BinaryOp) (left right : Value) (kind : Kind)
    → result_kind_of op (kind_of left) (kind_of right) ≡ Some kind → kind_of (binary_of op left right) ≡ kind

-- a cast gives a value of its kind
abbrev pub CastsGiveTheirKind : Type 0
CastsGiveTheirKind = (value : Value) (kind : Kind) → kind_of (cast_of value kind) ≡ kind

-- the globals of a program with kinds in order begin with values of their kinds
abbrev pub GlobalsKeepKinds : Type 0
GlobalsKeepKinds = (p : Program) → IsKinded p → map kind_of (initial_globals p) ≡ global_kinds p
