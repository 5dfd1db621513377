use Rattle.std.proofs.Common.{◌≡◌, ◌++◌, drop, map}
use Rattle.lsl_value.specs.Values.{kind_of}
use Rattle.lsl_gen.proofs.programs.kinds_of.Given as goal

abbrev pub invariant-loop-value : goal.invariant-loop-value
invariant-loop-value l = l.kinds ++ map kind_of (drop l.value-index l.values) ≡ map kind_of l.values
