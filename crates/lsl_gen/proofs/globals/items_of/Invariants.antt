use Rattle.std.proofs.Common.{◌≡◌, ◌++◌, drop, map}
use Rattle.std.specs.Prelude.{flat_map}
use Rattle.lsl_ops.specs.Operations.{atoms_of}
use Rattle.lsl_meaning.specs.Globals.{part_value_of}
use Rattle.lsl_gen.proofs.globals.items_of.Given as goal

abbrev pub invariant-loop-part : goal.invariant-loop-part
invariant-loop-part l =
    l.items ++ flat_map atoms_of (map (part_value_of l.before) (drop l.part-index l.parts))
    ≡ flat_map atoms_of (map (part_value_of l.before) l.parts)
