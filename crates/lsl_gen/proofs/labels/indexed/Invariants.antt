use Rattle.std.proofs.Common.{take}
use Rattle.lsl_gen.specs.LabelTables.{IsIndexed}
use Rattle.lsl_gen.proofs.labels.indexed.Given as goal

abbrev pub invariant-loop-x : goal.invariant-loop-x
invariant-loop-x l = IsIndexed l.first l.places.items (take l.x-index l.labels)
