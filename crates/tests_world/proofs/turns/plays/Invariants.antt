use Rattle.lsl_script.specs.Fitting.{FitsUnit}
use Rattle.tests_world.proofs.turns.plays.Given as goal

abbrev pub invariant-loop-line : goal.invariant-loop-line
invariant-loop-line g l = FitsUnit l.unit l.script
