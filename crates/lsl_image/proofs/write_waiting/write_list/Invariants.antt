use Rattle.std.proofs.Common.{◌≡◌, ◌++◌, length, take}
use Rattle.std.specs.List.{flat_map, AllByRecursion}
use Rattle.lsl_image.specs.Bytes.{listen_bytes}
use Rattle.lsl_image.specs.Fits.{FitsListen}
use Rattle.lsl_image.proofs.write_waiting.write_list.Given as goal

-- this many are written, and fit
abbrev pub invariant-loop-place : goal.invariant-loop-place
invariant-loop-place l = record {
  written : l.out.items ≡ l.fn.out.items ++ flat_map listen_bytes (take l.place l.listens.list);
  fits : AllByRecursion FitsListen (take l.place l.listens.list);
  end : l.place-end ≡ length l.listens.list;
}
