use Rattle.std.proofs.Common.{◌≡◌, ◌++◌, take}
use Rattle.std.specs.List.{flat_map, AllByRecursion}
use Rattle.lsl_image.specs.Bytes.{both_bytes}
use Rattle.lsl_image.specs.Fits.{FitsPair}
use Rattle.lsl_image.proofs.write_body.write_pairs.Given as goal

-- this many are written, and fit
abbrev pub invariant-loop-pair : goal.invariant-loop-pair
invariant-loop-pair l = record {
  written : l.out.items ≡ l.fn.out.items ++ flat_map both_bytes (take l.pair-index l.pairs);
  fits : AllByRecursion FitsPair (take l.pair-index l.pairs);
}
