use Rattle.std.proofs.Common.{◌≡◌, ◌≤◌, ◌-◌, vec_len}
use Rattle.lsl_ports.specs.Counts.{NoneFell}
use Rattle.lsl_ports.proofs.FileHeads.{Begins}
use Rattle.lsl_ports.proofs.reading.read_all.Given as goal

abbrev pub invariant-loop-bytes : goal.invariant-loop-bytes
invariant-loop-bytes g l =
    record {
      begins : Begins (g.S.Shelf.held l.fn.shelf) l.name l.bytes.items;
      within : vec_len l.bytes ≤ l.most;
      held : g.S.Shelf.held l.shelf ≡ g.S.Shelf.held l.fn.shelf;
      counted : NoneFell (g.S.Shelf.faults l.fn.shelf) (g.S.Shelf.faults l.shelf);
    }

abbrev pub decreases-loop-bytes : goal.decreases-loop-bytes
decreases-loop-bytes g l = l.most - vec_len l.bytes
