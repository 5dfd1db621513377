-- What globals hold at first: each initial value names constants and earlier globals alone.
use Rattle.std.specs.Prelude.{List, [], ◌∷◌, ◌++◌, map, get_or}
use Rattle.lsl_value.specs.declared.operators.UnaryOp.TheVariants.{Negate}
use Rattle.lsl_value.specs.declared.tagged.Value.{Value}
use Rattle.lsl_value.specs.declared.tagged.Value.TheVariants as value
use Rattle.lsl_table.specs.Constants.{constant_value_of}
use Rattle.lsl_ops.specs.Operations.{cast_of}
use Rattle.lsl_tree.specs.declared.program.Part.{Part}
use Rattle.lsl_tree.specs.declared.program.Part.TheVariants.{Int, Negative, Str, Constant, Global}
use Rattle.lsl_tree.specs.Program.{Initial, Single, Cast, ListLiteral, Program}
use Rattle.lsl_running.specs.declared.kept.Kept.{Kept}
use Rattle.lsl_running.specs.Charging.{default_limit}
use Rattle.lsl_running.specs.Values.{absent, unary_value, list_value}

-- after globals that hold these values
abbrev pub part_value_of : List Value → Part → Value
part_value_of before (Int n) = value.Int n
part_value_of before (Negative n) = unary_value Negate (value.Int n)
part_value_of before (Str text) = value.Str text
part_value_of before (Constant id kind) = constant_value_of id
part_value_of before (Global n kind) = get_or before n absent

abbrev pub initial_value_of : List Value → Initial → Value
initial_value_of before (Single part) = part_value_of before part
initial_value_of before (Cast kind part) = cast_of (part_value_of before part) kind
initial_value_of before (ListLiteral parts) = list_value (map (part_value_of before) parts)

-- these values, and then those of further globals
abbrev pub globals_behind : List Value → List Initial → List Value
globals_behind before [] = before
globals_behind before (g ∷ gs) = globals_behind (before ++ initial_value_of before g ∷ []) gs

abbrev pub initial_globals : Program → List Value
initial_globals p = globals_behind [] p.globals

-- what a script keeps at its start, and again after a reset or a fault
abbrev pub initial_kept : Program → Kept
initial_kept p = record { globals = initial_globals p; limit = default_limit }
