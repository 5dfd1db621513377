use Rattle.lsl_script.specs.Fitting.{FitsUnit}
use Rattle.tests_world.proofs.turns.touched.Given as goal

abbrev pub invariant-loop-at : goal.invariant-loop-at
invariant-loop-at l = FitsUnit l.unit l.script
