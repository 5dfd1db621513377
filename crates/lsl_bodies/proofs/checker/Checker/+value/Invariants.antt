use Rattle.std.proofs.Common.{◌≡◌, length, drop}
use Rattle.lsl_tree.specs.Nodes.{nodes_of, NoNode}
use Rattle.lsl_bodies.specs.Known.{known_of}
use Rattle.lsl_bodies.specs.Scope.{scope_of}
use Rattle.lsl_bodies.specs.Verdict.{each_verdict}
use Rattle.lsl_bodies.proofs.Walks.{value_next}
use Rattle.lsl_bodies.proofs.checker.Checker.+value.Given as goal

abbrev pub invariant-values-loop-expr : goal.invariant-values-loop-expr
invariant-values-loop-expr l = record {
  counted : length l.nodes.items ≡ l.expr-index;
  same : each_verdict (value_next (known_of l.self.known.now) (scope_of l.scope)) (nodes_of l.nodes.items)
      (drop l.expr-index l.exprs)
      ≡ each_verdict (value_next (known_of l.self.known.now) (scope_of l.scope)) NoNode l.exprs;
}
