use Rattle.std.proofs.Common.{◌≡◌, length, map, take, drop}
use Rattle.std.specs.BTreeMap.{values}
use Rattle.lsl_data.specs.Listing.{name_of}
use Rattle.lsl_data.proofs.listing.names.Given as goal

abbrev pub invariant-loop-pair : goal.invariant-loop-pair
invariant-loop-pair l =
    l.names.items ≡ map name_of (take (length l.yielded) (take l.most (drop l.skipped (values l.map))))
