use Rattle.std.proofs.Common.{◌≡◌, ◌<◌, ◌≤◌, ◌+◌, List, [], ◌∷◌, ◌++◌, length, sym, ap, ◌∙◌, arith, length-drop}
use Rattle.std.specs.Prelude.{Option}
use Rattle.lsl_value.specs.declared.tagged.Kind.{Kind}
use Rattle.lsl_tree.specs.declared.expression.Expr.{Expr}
use Rattle.std.proofs.lemmas.Result.{err_from_is_err_and}
use Rattle.std.specs.Vec.Iter.{into_iter_items}
use Rattle.lsl_tree.specs.declared.program_node.Node.{Node}
use Rattle.lsl_tree.specs.Nodes.{nodes_of, node_of, NoNode}
use Rattle.lsl_tree.specs.Expressions.{expr_of, exprs_of}
use Rattle.lsl_bodies.specs.Spans.{first_span}
use Rattle.lsl_bodies.specs.CallVerdicts.{argument_verdict, arguments_verdict}
use Rattle.lsl_tree.proofs.ProgramRows.{nodes_of-append}
use Rattle.lsl_bodies.proofs.Walks.{arguments_of, arguments_from, arguments_next, arguments_stop, arguments_end, fails_as}
use Rattle.lsl_bodies.proofs.calls.arguments.Goals as goal

pub returns-in_err-argument : goal.returns-in_err-argument
returns-in_err-argument c =
    let ps = c.args.params.now in
    let xs = c.args.exprs.now in
    let x = c.index-exprs-i.result in
    let m = c.in-Some.node in
    let lt : c.loop-i.i < length xs = omega arith in
    let p = err_from_is_err_and c.from_residual-in_err-argument.result c.from_residual-in_err-argument.ensures.1 in
    rw (p.1, p.2) (fails_as c.in_err-argument.field-0.0
    (argument_verdict c.kind_at.result (node_of m) (first_span (expr_of x)))
    (arguments_verdict ps (exprs_of xs) (nodes_of c.args.nodes.items)) c.in_err-argument.ensures (λ f v.
    arguments_of ps xs c.args.nodes.items c.requires
    ∙ (ap (λ (l : List Node). arguments_from ps 0 NoNode xs l) (sym c.into_iter-rest.ensures.rest)
    ∙ arguments_stop ps c.loop-i.i (nodes_of c.loop-i.done.items) f xs x m (into_iter_items c.loop-i.rest)
    (into_iter_items c.next.new.self) _ lt c.index-exprs-i.is c.in-Some.ensures.items
    (ap (λ (o : Option Kind). argument_verdict o (node_of m) (first_span (expr_of x))) (sym c.kind_at.ensures)
    ∙ v) c.loop-i.invariant.same)))

pub loop-i-preserved : goal.loop-i-preserved
loop-i-preserved c =
    let ps = c.args.params.now in
    let xs = c.args.exprs.now in
    let x = c.index-exprs-i.result in
    let m = c.in-Some.node in
    let lt : c.loop-i.i < length xs = omega arith in
    let items : c.push.new.self.items ≡ c.loop-i.done.items ++ c.in_ok-argument.field-0 ∷ [] =
    c.in_ok-push.ensures.items in
    let one = ap length c.in-Some.ensures.items in
    record {
      counted = omega (
        arith,
        length-drop {A = Expr} (c.loop-i.i + 1) xs,
        length-drop {A = Expr} c.loop-i.i
            xs,
        c.loop-i.invariant.counted,
        one,
      );
      same = arguments_next ps c.loop-i.i (nodes_of c.loop-i.done.items) (nodes_of c.push.new.self.items)
          (node_of c.in_ok-argument.field-0) xs x m (into_iter_items c.loop-i.rest)
          (into_iter_items c.next.new.self) _
          lt c.index-exprs-i.is c.in-Some.ensures.items
          (ap (λ (o : Option Kind). argument_verdict o (node_of m) (first_span (expr_of x)))
          (sym c.kind_at.ensures) ∙ c.in_ok-argument.ensures)
          (ap nodes_of items ∙ nodes_of-append c.loop-i.done.items c.in_ok-argument.field-0) c.loop-i.invariant.same;
    }

pub returns : goal.returns
returns c =
    let ps = c.args.params.now in
    let xs = c.args.exprs.now in
    let over : length xs ≤ c.loop-i.i = omega arith in
    arguments_of ps xs c.args.nodes.items c.requires
    ∙ (ap (λ (l : List Node). arguments_from ps 0 NoNode xs l) (sym c.into_iter-rest.ensures.rest)
    ∙ arguments_end ps c.loop-i.i (nodes_of c.loop-i.done.items) xs (into_iter_items c.loop-i.rest) _ over
    c.loop-i.invariant.same)
