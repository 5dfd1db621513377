use Rattle.std.proofs.Common.{◌≡◌, take}
use Rattle.std.specs.List.{flat_map}
use Rattle.lsl_view.specs.Names.{names_in_object}
use Rattle.lsl_view.proofs.names.script_names.Given as goal

abbrev pub invariant-objects : goal.invariant-objects
invariant-objects l = l.names.items ≡ flat_map names_in_object (take l.object-index l.file.objects)
