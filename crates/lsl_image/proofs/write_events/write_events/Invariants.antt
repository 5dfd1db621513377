use Rattle.std.proofs.Common.{◌≡◌, ◌++◌, length, take}
use Rattle.std.specs.List.{flat_map, AllByRecursion}
use Rattle.lsl_image.specs.Bytes.{event_bytes}
use Rattle.lsl_image.specs.Fits.{FitsEvent}
use Rattle.lsl_image.proofs.write_events.write_events.Given as goal

-- this many are written, and fit
abbrev pub invariant-loop-place : goal.invariant-loop-place
invariant-loop-place l = record {
  written : l.out.items ≡ l.fn.out.items ++ flat_map event_bytes (take l.place l.queue);
  fits : AllByRecursion FitsEvent (take l.place l.queue);
  end : l.place-end ≡ length l.queue;
}
