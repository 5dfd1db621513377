use Rattle.std.proofs.Common.{◌<◌, ◌≤◌, [], length, arith}
use Rattle.std.proofs.lemmas.Result.{err_from_is_err_and}
use Rattle.lsl_bodies.specs.Verdict.{each_verdict}
use Rattle.lsl_type.specs.HeaderVerdicts.{param_verdict}
use Rattle.lsl_bodies.proofs.Walks.{each_next, each_stop, each_end, fails_as}
use Rattle.lsl_type.proofs.params.params.Goals as goal

pub returns-in_err-add_param : goal.returns-in_err-add_param
returns-in_err-add_param c =
    let ps = c.args.params.now in
    let lt : c.loop-param.param-index < length ps = omega arith in
    let p = err_from_is_err_and c.from_residual.result c.from_residual.ensures.1 in
    rw (p.1, p.2) (fails_as c.in_err-add_param.field-0.0 (param_verdict c.loop-param.names c.param-item.result)
    (each_verdict param_verdict [] ps) c.in_err-add_param.ensures (λ f v.
    each_stop param_verdict c.loop-param.names f ps c.loop-param.param-index c.param-item.result _ lt
    c.param-item.is v c.loop-param.invariant))

pub loop-param-preserved : goal.loop-param-preserved
loop-param-preserved c =
    let ps = c.args.params.now in
    let lt : c.loop-param.param-index < length ps = omega arith in
    each_next param_verdict c.loop-param.names c.add_param.new.names ps c.loop-param.param-index
    c.param-item.result _ lt c.param-item.is c.in_ok-add_param.ensures c.loop-param.invariant

pub returns : goal.returns
returns c =
    let over : length c.args.params.now ≤ c.loop-param.param-index = omega arith in
    each_end param_verdict c.loop-param.names c.args.params.now c.loop-param.param-index _ over c.loop-param.invariant
