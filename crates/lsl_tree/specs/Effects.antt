-- An expression used as a statement, without where it lies in memory.
use Rattle.std.specs.Prelude.{ℕ}
use Rattle.lsl_tree.specs.declared.program_node.Callee.{Callee}
use Rattle.lsl_tree.specs.declared.program_action.Effect as declared
use Rattle.lsl_tree.specs.declared.program_action.Effect.TheVariants as form
use Rattle.lsl_tree.specs.Nodes.{Node, Nodes, node_of, nodes_of}

-- an expression whose value is dropped, or a call without a result
pub data Effect : Type 0 where
  Value : Node → Effect
  Call : Callee → ℕ → Nodes → Effect

abbrev pub effect_of : declared.Effect → Effect
effect_of (form.Value t) = Value (node_of t)
effect_of (form.Call c l v) = Call c l (nodes_of v.items)
