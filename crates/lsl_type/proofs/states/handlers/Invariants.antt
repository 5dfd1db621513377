use Rattle.std.proofs.Common.{◌≡◌, [], drop}
use Rattle.lsl_bodies.specs.Verdict.{each_verdict}
use Rattle.lsl_type.proofs.HeaderWalks.{handler_next}
use Rattle.lsl_type.proofs.states.handlers.Given as goal

abbrev pub invariant-loop-handler : goal.invariant-loop-handler
invariant-loop-handler l = each_verdict handler_next l.events.items (drop l.handler-index l.list)
    ≡ each_verdict handler_next [] l.list
