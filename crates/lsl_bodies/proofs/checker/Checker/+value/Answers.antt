use Rattle.std.proofs.Common.{◌≡◌, ◌<◌, sym, ap, ◌∙◌, arith, rules, length, ◌≤◌, Ok, [], ◌∷◌, ◌++◌, length-append}
use Rattle.lsl_tree.specs.Expressions.{expr_of, exprs_of}
use Rattle.lsl_bodies.specs.Known.{known_of}
use Rattle.lsl_bodies.specs.Scope.{scope_of}
use Rattle.lsl_bodies.specs.Verdict.{Verdict, ◌>>=◌}
use Rattle.lsl_bodies.specs.ValueVerdicts.{value_verdict, values_verdict}
use Rattle.lsl_tree.proofs.SyntaxRows.{expr_of-Call, expr_of-List}
use Rattle.std.proofs.lemmas.Result.{err_from_is_err_and}
use Rattle.lsl_tree.specs.Nodes.{nodes_of, Node, AndNode}
use Rattle.lsl_tree.proofs.ProgramRows.{nodes_of-append}
use Rattle.lsl_bodies.proofs.Walks.{values_of, value_next, each_next, each_stop, each_end, fails_as}
use Rattle.lsl_bodies.proofs.checker.Checker.+value.Goals as goal

pub value-returns-in-Call : goal.value-returns-in-Call
value-returns-in-Call t c =
    let e = ap expr_of c.in-Call.is ∙ expr_of-Call c.in-Call.name c.in-Call.arguments in
    rw e (search rules)

pub value-returns-in_err-nodes-in-List : goal.value-returns-in_err-nodes-in-List
value-returns-in_err-nodes-in-List t c =
    let e = ap expr_of c.in-List.is ∙ expr_of-List c.in-List.span c.in-List.elements in
    rw e (search rules)

pub value-returns-in_ok-nodes-in-List : goal.value-returns-in_ok-nodes-in-List
value-returns-in_ok-nodes-in-List t c =
    let e = ap expr_of c.in-List.is ∙ expr_of-List c.in-List.span c.in-List.elements in
    rw e (search rules)

pub values-returns-in_err-value-clause-found : goal.values-returns-in_err-value-clause-found
values-returns-in_err-value-clause-found t c =
    let known = known_of c.args.self.now.known.now in
    let s = scope_of c.args.scope.now in
    let lt : c.loop-expr.expr-index < length c.args.exprs.now = omega arith in
    let fails = c.in_err-value.ensures in
    let p = err_from_is_err_and c.from_residual-in_err-value.result c.from_residual-in_err-value.ensures.1 in
    rw (p.1, p.2) (fails_as c.in_err-value.field-0.0 (value_verdict known s (expr_of c.expr-item.result))
    (values_verdict known s (exprs_of c.args.exprs.now)) fails (λ f v.
    values_of known s c.args.exprs.now
    ∙ each_stop (value_next known s) (nodes_of c.loop-expr.nodes.items) f c.args.exprs.now
    c.loop-expr.expr-index c.expr-item.result _ lt c.expr-item.is
    (ap (λ (w : Verdict Node). w >>= λ u. Ok (AndNode (nodes_of c.loop-expr.nodes.items) u)) v)
    c.loop-expr.invariant.same))

pub values-loop-expr-preserved : goal.values-loop-expr-preserved
values-loop-expr-preserved t c =
    let known = known_of c.args.self.now.known.now in
    let s = scope_of c.args.scope.now in
    let lt : c.loop-expr.expr-index < length c.args.exprs.now = omega arith in
    let items : c.push.new.self.items ≡ c.loop-expr.nodes.items ++ c.in_ok-value.field-0 ∷ [] =
    c.in_ok-push.ensures.items in
    let step : value_next known s (nodes_of c.loop-expr.nodes.items) c.expr-item.result
    ≡ Ok (nodes_of c.push.new.self.items) =
    ap (λ (v : Verdict Node). v >>= λ u. Ok (AndNode (nodes_of c.loop-expr.nodes.items) u)) c.in_ok-value.ensures
    ∙ ap Ok (sym (ap nodes_of items ∙ nodes_of-append c.loop-expr.nodes.items c.in_ok-value.field-0)) in
    record {
      counted = ap length items ∙ simp length-append (omega (arith, c.loop-expr.invariant.counted));
      same = each_next (value_next known s) (nodes_of c.loop-expr.nodes.items) (nodes_of c.push.new.self.items)
          c.args.exprs.now c.loop-expr.expr-index c.expr-item.result _ lt c.expr-item.is step
          c.loop-expr.invariant.same;
    }

pub values-returns-clause-found : goal.values-returns-clause-found
values-returns-clause-found t c =
    let known = known_of c.args.self.now.known.now in
    let s = scope_of c.args.scope.now in
    let over : length c.args.exprs.now ≤ c.loop-expr.expr-index = omega arith in
    values_of known s c.args.exprs.now ∙ each_end (value_next known s) (nodes_of c.loop-expr.nodes.items)
    c.args.exprs.now c.loop-expr.expr-index _ over c.loop-expr.invariant.same

pub values-returns-clause-counted : goal.values-returns-clause-counted
values-returns-clause-counted t c = omega (arith, c.loop-expr.invariant.counted)
