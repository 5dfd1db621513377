use Rattle.std.proofs.Common.{◌≡◌, ◌++◌, take}
use Rattle.std.specs.List.{flat_map, AllByRecursion}
use Rattle.lsl_image.specs.Bytes.{library_script_bytes}
use Rattle.lsl_image.specs.Fits.{FitsIn}
use Rattle.lsl_image.proofs.write_body.write_each_script.Given as goal

-- this many are written, and fit
abbrev pub invariant-loop-script : goal.invariant-loop-script
invariant-loop-script l = record {
  written : l.out.items ≡ l.fn.out.items ++ flat_map (library_script_bytes 2 l.library) (take l.script-index l.scripts);
  fits : AllByRecursion (FitsIn l.library) (take l.script-index l.scripts);
}
