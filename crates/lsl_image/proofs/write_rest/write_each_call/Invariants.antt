use Rattle.std.proofs.Common.{◌≡◌, ◌++◌, length, take}
use Rattle.std.specs.List.{flat_map, AllByRecursion}
use Rattle.lsl_image.specs.Bytes.{frame_bytes}
use Rattle.lsl_image.specs.Fits.{FitsFrame}
use Rattle.lsl_image.proofs.write_rest.write_each_call.Given as goal

-- this many are written, and fit
abbrev pub invariant-loop-i : goal.invariant-loop-i
invariant-loop-i l = record {
  written : l.out.items ≡ l.fn.out.items ++ flat_map frame_bytes (take l.i l.sack);
  fits : AllByRecursion FitsFrame (take l.i l.sack);
  end : l.i-end ≡ length l.sack;
}
