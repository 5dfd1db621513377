use Rattle.std.proofs.Common.{◌≡◌, ◌-◌, false, length}
use Rattle.lsl_image.specs.Layout.{grown, repeated}
use Rattle.lsl_image.specs.Script.{event_in}
use Rattle.lsl_image.specs.Leading.{Leads}
use Rattle.lsl_image.proofs.queue.read_events.Given as goal

-- this many events are read
abbrev pub invariant-loop-i : goal.invariant-loop-i
invariant-loop-i l = record {
  many : length l.queue ≡ l.i;
  leads : Leads l.bytes (grown (l.count - l.i) (λ before. event_in l.unit l.state false) l.queue) l.next
      (λ list. list) (repeated l.count (event_in l.unit l.state false)) l.place;
}
