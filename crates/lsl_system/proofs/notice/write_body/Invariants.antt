use Rattle.std.proofs.Common.{◌≤◌, take}
use Rattle.std.specs.List.{flat_map}
use Rattle.lsl_text.specs.Quoted.{escaped}
use Rattle.lsl_ports.specs.Growth.{Grew}
use Rattle.lsl_system.proofs.notice.write_body.Given as goal

abbrev pub invariant-loop-byte : goal.invariant-loop-byte
invariant-loop-byte g l =
    record {
      grew : Grew (g.N.Sink.sunk l.fn.notes) (g.N.Sink.sunk l.notes) (flat_map escaped (take l.byte-index l.text));
      counted : g.N.Sink.faults l.fn.notes ≤ g.N.Sink.faults l.notes;
    }
