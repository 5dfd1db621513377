use Rattle.std.proofs.Common.{◌≡◌, map, take}
use Rattle.std.specs.List.{flat_map}
use Rattle.lsl_tree.specs.Scripts.{header_of}
use Rattle.lsl_view.specs.Globals.{names_in_header}
use Rattle.lsl_view.proofs.globals.names_in.Given as goal

abbrev pub invariant-loop-header : goal.invariant-loop-header
invariant-loop-header l =
    l.names.items ≡ flat_map names_in_header (map header_of (take l.header-index l.headers))
