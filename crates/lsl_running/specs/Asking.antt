-- Host calls.
use Rattle.std.specs.Prelude.{List}
use Rattle.lsl_value.specs.declared.names.BuiltinId.{BuiltinId}
use Rattle.lsl_value.specs.declared.tagged.Value.{Value}

-- a pending call, with its arguments
pub record Call : Type 0 where
  pub id : BuiltinId
  pub args : List Value
