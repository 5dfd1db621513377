use Rattle.std.proofs.Common.{ap, arith, rules}
use Rattle.lsl_tree.specs.Expressions.{highest}
use Rattle.lsl_tree.proofs.SyntaxRows.{exprs_of-push}
use Rattle.lsl_read.proofs.operand.Operands.push.Goals as goal

pub invariant_of-self-2 : goal.invariant_of-self-2
invariant_of-self-2 c =
    let e = exprs_of-push c.push.new.self.items c.args.self.now.exprs.items c.args.next.expr (search rules) in
    let h = ap highest e in
    record { capped = omega (arith, h, c.args.self.now.capped, c.args.next.capped, c.max-self.ensures) }

pub returns : goal.returns
returns c = exprs_of-push c.push.new.self.items c.args.self.now.exprs.items c.args.next.expr (search rules)
