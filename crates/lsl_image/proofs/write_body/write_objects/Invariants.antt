use Rattle.std.proofs.Common.{◌≡◌, ◌++◌, take}
use Rattle.std.specs.List.{flat_map, AllByRecursion}
use Rattle.lsl_image.specs.Bytes.{placed_bytes}
use Rattle.lsl_image.specs.Fits.{FitsPlaced}
use Rattle.lsl_image.proofs.write_body.write_objects.Given as goal

-- this many are written, and fit
abbrev pub invariant-loop-object : goal.invariant-loop-object
invariant-loop-object l = record {
  written : l.out.items ≡ l.fn.out.items ++ flat_map (placed_bytes 2 l.library) (take l.object-index l.objects);
  fits : AllByRecursion (FitsPlaced l.library) (take l.object-index l.objects);
}
