use Rattle.std.proofs.Common.{◌≡◌, take}
use Rattle.std.specs.Prelude.{map}
use Rattle.lsl_region.specs.ObjectParts.{name_of}
use Rattle.lsl_region.proofs.object_image.names_of.Given as goal

abbrev pub invariant-loop-prim : goal.invariant-loop-prim
invariant-loop-prim l = l.names ≡ map name_of (take l.prim-index l.prim-items)
