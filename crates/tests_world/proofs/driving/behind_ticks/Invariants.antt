use Rattle.tests_world.specs.Driven.{IsAtTick}
use Rattle.tests_world.proofs.driving.behind_ticks.Given as goal

abbrev pub invariant-loop-i : goal.invariant-loop-i
invariant-loop-i l = IsAtTick l.unit l.handler l.machine
