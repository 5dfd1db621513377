use Rattle.std.proofs.Common.{◌≡◌, take}
use Rattle.lsl_value.proofs.tagged.Values.copy.Given as goal

abbrev pub invariant-loop-value : goal.invariant-loop-value
invariant-loop-value l = l.list.items ≡ take l.value-index l.self
