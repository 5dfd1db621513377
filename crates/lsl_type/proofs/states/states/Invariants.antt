use Rattle.std.proofs.Common.{◌≡◌, [], drop}
use Rattle.lsl_bodies.specs.Verdict.{each_verdict}
use Rattle.lsl_type.proofs.HeaderWalks.{state_next}
use Rattle.lsl_type.proofs.states.states.Given as goal

abbrev pub invariant-loop-state : goal.invariant-loop-state
invariant-loop-state l = each_verdict state_next l.names (drop l.state-index l.list) ≡ each_verdict state_next [] l.list
