use Rattle.std.proofs.Common.{◌≡◌, ◌++◌, take}
use Rattle.lsl_tree.specs.Nodes.{nodes_of}
use Rattle.lsl_gen.specs.Expressions.{values_code}
use Rattle.lsl_gen.proofs.expressions.+emit.Given as goal

abbrev pub invariant-emit_values-loop-node : goal.invariant-emit_values-loop-node
invariant-emit_values-loop-node l = l.draft ≡ l.fn.draft ++ values_code (nodes_of (take l.node-index l.nodes))
