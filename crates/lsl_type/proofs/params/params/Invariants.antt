use Rattle.std.proofs.Common.{◌≡◌, [], drop}
use Rattle.lsl_bodies.specs.Verdict.{each_verdict}
use Rattle.lsl_type.specs.HeaderVerdicts.{param_verdict}
use Rattle.lsl_type.proofs.params.params.Given as goal

abbrev pub invariant-loop-param : goal.invariant-loop-param
invariant-loop-param l = each_verdict param_verdict l.names (drop l.param-index l.params)
    ≡ each_verdict param_verdict [] l.params
