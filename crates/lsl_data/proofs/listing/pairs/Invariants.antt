use Rattle.std.proofs.Common.{◌≡◌, length, take}
use Rattle.std.specs.BTreeMap.{values}
use Rattle.lsl_data.proofs.listing.pairs.Given as goal

abbrev pub invariant-loop-pair : goal.invariant-loop-pair
invariant-loop-pair l = l.pairs ≡ take (length l.yielded) (values l.map)
