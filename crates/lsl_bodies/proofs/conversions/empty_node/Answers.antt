use Rattle.std.proofs.Common.{List, ap, sym, ◌∙◌}
use Rattle.lsl_tree.specs.declared.program_node.Node.{Node}
use Rattle.lsl_tree.specs.Nodes as node
use Rattle.lsl_tree.specs.Nodes.{nodes_of}
use Rattle.lsl_bodies.specs.Conversions.{empty_node}
use Rattle.lsl_tree.proofs.ProgramRows.{node_of-List}
use Rattle.lsl_bodies.proofs.conversions.empty_node.Goals as goal

pub returns-in-List : goal.returns-in-List
returns-in-List c = node_of-List c.new-in-List.result
    ∙ ap (λ (l : List Node). node.ListLiteral (nodes_of l)) c.new-in-List.ensures.items
    ∙ sym (ap empty_node c.in-List.is)
