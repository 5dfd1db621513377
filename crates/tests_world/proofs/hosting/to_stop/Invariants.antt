use Rattle.tests_world.specs.Stops.{IsAfter}
use Rattle.tests_world.proofs.hosting.to_stop.Given as goal

abbrev pub invariant-loop-at : goal.invariant-loop-at
invariant-loop-at l = IsAfter l.unit l.turn l.live
