use Rattle.std.proofs.Common.{ap, ◌∙◌, rules}
use Rattle.lsl_tree.specs.Expressions.{expr_of}
use Rattle.lsl_tree.proofs.SyntaxRows.{expr_of-Call}
use Rattle.lsl_bodies.proofs.checker.Checker.+effect.Goals as goal

pub returns-in_err-nodes-in-Call : goal.returns-in_err-nodes-in-Call
returns-in_err-nodes-in-Call t c =
    let e = ap expr_of c.in-Call.is ∙ expr_of-Call c.in-Call.name c.in-Call.arguments in
    rw e (search rules)

pub returns-in_err-called-in-Call : goal.returns-in_err-called-in-Call
returns-in_err-called-in-Call t c =
    let e = ap expr_of c.in-Call.is ∙ expr_of-Call c.in-Call.name c.in-Call.arguments in
    rw e (search rules)

pub returns-in_ok-called-in-Call : goal.returns-in_ok-called-in-Call
returns-in_ok-called-in-Call t c =
    let e = ap expr_of c.in-Call.is ∙ expr_of-Call c.in-Call.name c.in-Call.arguments in
    rw e (search rules)
