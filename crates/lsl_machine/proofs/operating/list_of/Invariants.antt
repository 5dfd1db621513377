use Rattle.std.proofs.Common.{◌≡◌, take}
use Rattle.std.specs.List.{flat_map}
use Rattle.lsl_ops.specs.Operations.{atoms_of}
use Rattle.lsl_machine.proofs.operating.list_of.Given as goal

abbrev pub invariant-loop-value : goal.invariant-loop-value
invariant-loop-value l = l.items ≡ flat_map atoms_of (take l.value-index l.values)
