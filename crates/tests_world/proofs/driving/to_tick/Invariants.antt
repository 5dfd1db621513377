use Rattle.tests_world.specs.Driven.{CanGoOn}
use Rattle.tests_world.proofs.driving.to_tick.Given as goal

abbrev pub invariant-loop-i : goal.invariant-loop-i
invariant-loop-i l = CanGoOn l.unit l.fn.handler l.machine
