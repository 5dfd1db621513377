-- What a name refers to where no call is meant.
use Rattle.std.specs.Prelude.{pos}
use Rattle.lsl_value.specs.declared.tagged.Kind.TheVariants.{Int}
use Rattle.lsl_tree.specs.declared.expression.StepOp.{StepOp}
use Rattle.lsl_tree.specs.declared.program_node.Place.{Place}
use Rattle.lsl_tree.specs.Nodes as node
use Rattle.lsl_tree.specs.Nodes.{Node}
use Rattle.lsl_bodies.specs.declared.frame.Target.{Target}
use Rattle.lsl_bodies.specs.declared.frame.Target.TheVariants.{Kept, Fixed}
use Rattle.lsl_bodies.specs.Table.{constant_kind_of}
use Rattle.lsl_bodies.specs.Conversions.{step_operator}

-- its value
abbrev pub read_of : Target → Node
read_of (Kept v) = node.Variable v.place v.kind
read_of (Fixed id) = node.Constant id (constant_kind_of id)

-- `++x` is `x = x + 1`, and `--x` is `x = x - 1`
abbrev pub steps_of : Place → StepOp → Node
steps_of p op = node.Assign p Int (node.Binary (step_operator op) Int (node.Variable p Int) (node.Int (pos 1)))
