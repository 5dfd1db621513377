use Rattle.std.proofs.Common.{◌≡◌, min, sym, subst, arith}
use Rattle.lsl_tree.specs.Expressions.{Expr, height}
use Rattle.lsl_signs.specs.Limits.{height_limit}
use Rattle.lsl_tree.proofs.SyntaxRows.{expr_of-List}
use Rattle.lsl_read.proofs.operand.Operand.list.Goals as goal

pub invariant_of-result : goal.invariant_of-result
invariant_of-result c =
    let P : Expr → Type 0 = λ x. c.raised.result ≡ min (height x) height_limit in
    record {
      capped = subst P (sym (expr_of-List c.args.span c.args.elements.exprs))
          (omega (arith, c.raised.ensures, c.args.elements.capped));
    }

pub returns : goal.returns
returns c = expr_of-List c.args.span c.args.elements.exprs
