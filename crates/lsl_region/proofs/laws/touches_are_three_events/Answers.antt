use Rattle.lsl_region.proofs.TouchLaws.{touches-are, touches-prim, touches-root}
use Rattle.lsl_region.proofs.laws.touches_are_three_events.Goals as goal

pub returns-clause-events : goal.returns-clause-events
returns-clause-events c = touches-are

pub returns-clause-prim : goal.returns-clause-prim
returns-clause-prim c = touches-prim

pub returns-clause-root : goal.returns-clause-root
returns-clause-root c = touches-root
