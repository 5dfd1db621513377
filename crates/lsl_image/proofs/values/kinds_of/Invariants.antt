use Rattle.std.proofs.Common.{◌≡◌, map, take}
use Rattle.lsl_value.specs.Values.{kind_of}
use Rattle.lsl_image.proofs.values.kinds_of.Given as goal

-- the kinds of the values so far
abbrev pub invariant-loop-value : goal.invariant-loop-value
invariant-loop-value l = l.kinds.items ≡ map kind_of (take l.value-index l.values)
