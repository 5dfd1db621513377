use Rattle.lsl_tree.specs.Scripts.{tree_of}
use Rattle.lsl_type.proofs.Top.{answer_found, answer_every, answer_shaped, answer_kinded, answer_first, answer_only}
use Rattle.lsl_type.proofs.check.Goals as goal

pub returns : goal.returns
returns c = record {
  found = answer_found (tree_of c.args.tree.now) c.program.result c.program.ensures;
  every = answer_every (tree_of c.args.tree.now) c.program.result c.program.ensures;
  shaped = answer_shaped (tree_of c.args.tree.now) c.program.result c.program.ensures;
  kinded = answer_kinded (tree_of c.args.tree.now) c.program.result c.program.ensures;
  first = answer_first (tree_of c.args.tree.now) c.program.result c.program.ensures;
  only = answer_only (tree_of c.args.tree.now) c.program.result c.program.ensures;
}
