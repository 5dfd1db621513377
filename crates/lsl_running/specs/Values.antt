-- Values that a running script makes: by operators, by casts, of elements, and the one that a slot holds at first.
use Rattle.std.specs.Prelude.{pos, cond, List, [], flat_map, Option, Some, None}
use Rattle.lsl_value.specs.declared.operators.UnaryOp.{UnaryOp}
use Rattle.lsl_value.specs.declared.operators.BinaryOp.{BinaryOp}
use Rattle.lsl_value.specs.declared.tagged.Kind.{Kind}
use Rattle.lsl_value.specs.declared.tagged.Kind.TheVariants as kind
use Rattle.lsl_value.specs.declared.tagged.Value.{Value}
use Rattle.lsl_value.specs.declared.tagged.Value.TheVariants as value
use Rattle.lsl_ops.specs.Integers.{unary_of}
use Rattle.lsl_ops.specs.Operations.{binary_of, divides_by_zero, integer_of, atoms_of}

-- the empty value of a kind, which a slot holds before anything is stored in it
abbrev pub empty_of : Kind → Value
empty_of kind.Int = value.Int (pos 0)
empty_of kind.Str = value.Str []
empty_of kind.Key = value.Key []
empty_of kind.List = value.List []

-- what a slot or a global reads as that isn't there
abbrev pub absent : Value
absent = value.Int (pos 0)

-- an operator before a value
abbrev pub unary_value : UnaryOp → Value → Value
unary_value op v = value.Int (unary_of op (integer_of v))

-- an operator between two values; none where it divides by 0
abbrev pub binary_value : BinaryOp → Value → Value → Option Value
binary_value op left right = cond (divides_by_zero op right) None (Some (binary_of op left right))

abbrev pub list_value : List Value → Value
list_value values = value.List (flat_map atoms_of values)
