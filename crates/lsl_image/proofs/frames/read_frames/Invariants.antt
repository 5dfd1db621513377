use Rattle.std.proofs.Common.{◌≡◌, ◌-◌, [], length, sum_by}
use Rattle.lsl_code.specs.Frames.{frame_charge}
use Rattle.lsl_running.specs.Charging.{charged_with}
use Rattle.lsl_image.specs.Layout.{grown}
use Rattle.lsl_image.specs.Rest.{callee_of, frame_behind}
use Rattle.lsl_image.specs.Leading.{Leads}
use Rattle.lsl_image.proofs.frames.read_frames.Given as goal

-- this many frames are read and charged
abbrev pub invariant-loop-i : goal.invariant-loop-i
invariant-loop-i l = record {
  many : length l.pack.frames ≡ l.i;
  callee : l.callee ≡ callee_of l.pack.frames;
  leads : Leads l.bytes (grown (l.count - l.i) (frame_behind l.unit l.handler l.count) l.pack.frames) l.next
      (λ list. list)
      (grown l.count (frame_behind l.unit l.handler l.count) []) l.place;
  charged : l.sum ≡ charged_with 0 (sum_by frame_charge l.pack.frames);
  room : l.room.items ≡ [];
}
