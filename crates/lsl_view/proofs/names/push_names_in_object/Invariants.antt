use Rattle.std.proofs.Common.{◌≡◌, ◌++◌, take}
use Rattle.std.specs.List.{flat_map}
use Rattle.lsl_view.specs.Names.{names_in_prim}
use Rattle.lsl_view.proofs.names.push_names_in_object.Given as goal

abbrev pub invariant-prims : goal.invariant-prims
invariant-prims l = l.names.items ≡ l.fn.names.items ++ flat_map names_in_prim (take l.prim-index l.object.prims)
