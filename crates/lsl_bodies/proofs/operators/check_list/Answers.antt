use Rattle.std.proofs.Common.{rules}
use Rattle.lsl_tree.proofs.ProgramRows.{node_of-List}
use Rattle.lsl_bodies.proofs.operators.check_list.Goals as goal

pub returns : goal.returns
returns c = let e = node_of-List c.args.nodes in rw e (search rules)
