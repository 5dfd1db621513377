-- The names that no script declares: constants, events and built-in calls.
use Rattle.std.specs.Prelude.{◌≡◌, ◌⊎◌, ℕ, Option, Bool, ◌||◌, is_some, List}
use Rattle.lsl_value.specs.Values.{kind_of}
use Rattle.lsl_value.specs.declared.names.BuiltinId.{BuiltinId}
use Rattle.lsl_value.specs.declared.names.ConstantId.{ConstantId}
use Rattle.lsl_value.specs.declared.names.EventId.{EventId}
use Rattle.lsl_value.specs.declared.tagged.Kind.{Kind}
use Rattle.lsl_table.specs.Calls.{name_of, row_of, builtin_named}
use Rattle.lsl_table.specs.Constants.{constant_name_of, constant_value_of, constant_named}
use Rattle.lsl_table.specs.Events.{event_name_of, signature_of, event_named}

abbrev pub IsBuiltin : List ℕ → BuiltinId → Type 0
IsBuiltin name id = name_of id ≡ name

abbrev pub IsConstant : List ℕ → ConstantId → Type 0
IsConstant name id = constant_name_of id ≡ name

abbrev pub IsEvent : List ℕ → EventId → Type 0
IsEvent name id = event_name_of id ≡ name

-- no script declares it
abbrev pub IsReserved : List ℕ → Type 0
IsReserved name =
    ((id : ConstantId) × IsConstant name id)
    ⊎ (((id : EventId) × IsEvent name id) ⊎ ((id : BuiltinId) × IsBuiltin name id))

unfoldable pub params_of : BuiltinId → List Kind
params_of id = (row_of id).params

unfoldable pub result_of : BuiltinId → Option Kind
result_of id = (row_of id).result

unfoldable pub event_params_of : EventId → List Kind
event_params_of id = signature_of id

unfoldable pub constant_kind_of : ConstantId → Kind
constant_kind_of id = kind_of (constant_value_of id)

abbrev pub builtin_of : List ℕ → Option BuiltinId
builtin_of name = builtin_named name

abbrev pub event_of : List ℕ → Option EventId
event_of name = event_named name

abbrev pub constant_of : List ℕ → Option ConstantId
constant_of name = constant_named name

abbrev pub is_reserved : List ℕ → Bool
is_reserved name = is_some (constant_of name) || (is_some (event_of name) || is_some (builtin_of name))
