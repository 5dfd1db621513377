use Rattle.std.proofs.Common.{◌≡◌, ◌++◌, length, take}
use Rattle.std.specs.List.{flat_map}
use Rattle.lsl_view.specs.State.{event_line}
use Rattle.lsl_view.proofs.mailbox.push_queue.Given as goal

abbrev pub invariant-loop-place : goal.invariant-loop-place
invariant-loop-place l = record {
  written : l.out.items ≡ l.fn.out.items ++ flat_map event_line (take l.place l.queue);
  end : l.place-end ≡ length l.queue;
}
