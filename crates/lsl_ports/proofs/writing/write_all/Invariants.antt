use Rattle.std.proofs.Common.{◌≤◌, ◌-◌, length, take}
use Rattle.lsl_ports.specs.Growth.{Grew}
use Rattle.lsl_ports.proofs.writing.write_all.Given as goal

abbrev pub invariant-loop-done : goal.invariant-loop-done
invariant-loop-done g l =
    record {
      within : l.done ≤ length l.bytes;
      grew : Grew (g.K.Sink.sunk l.fn.sink) (g.K.Sink.sunk l.sink) (take l.done l.bytes);
      counted : g.K.Sink.faults l.fn.sink ≤ g.K.Sink.faults l.sink;
    }

abbrev pub decreases-loop-done : goal.decreases-loop-done
decreases-loop-done g l = length l.bytes - l.done
