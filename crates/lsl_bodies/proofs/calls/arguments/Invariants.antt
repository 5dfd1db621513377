use Rattle.std.proofs.Common.{◌≡◌, length, drop}
use Rattle.std.specs.Vec.Iter.{into_iter_items}
use Rattle.lsl_tree.specs.Nodes.{nodes_of, NoNode}
use Rattle.lsl_bodies.proofs.Walks.{arguments_from}
use Rattle.lsl_bodies.proofs.calls.arguments.Given as goal

abbrev pub invariant-loop-i : goal.invariant-loop-i
invariant-loop-i l = record {
  counted : length (drop l.i l.exprs) ≡ length (into_iter_items l.rest);
  same : arguments_from l.params l.i (nodes_of l.done.items) (drop l.i l.exprs) (into_iter_items l.rest)
      ≡ arguments_from l.params 0 NoNode l.exprs (into_iter_items l.initial.rest);
}
