use Rattle.std.proofs.Common.{◌≡◌}
use Rattle.lsl_ports.specs.Counts.{NoneFell}
use Rattle.lsl_trace.proofs.script.read_units.Given as goal

abbrev pub invariant-files : goal.invariant-files
invariant-files g l = record {
  unchanged : g.S.Shelf.held l.shelf ≡ g.S.Shelf.held l.fn.shelf;
  counted : NoneFell (g.S.Shelf.faults l.fn.shelf) (g.S.Shelf.faults l.shelf);
}
