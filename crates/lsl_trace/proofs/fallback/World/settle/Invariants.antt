use Rattle.std.proofs.Common.{◌≡◌, ◌≤◌}
use Rattle.lsl_ports.specs.Counts.{NoneFell}
use Rattle.lsl_trace.proofs.fallback.World.settle.Given as goal

abbrev pub invariant-attempts : goal.invariant-attempts
invariant-attempts g l = record {
  unchanged : g.S.Shelf.held l.shelf ≡ g.S.Shelf.held l.fn.shelf;
  reads : NoneFell (g.S.Shelf.faults l.fn.shelf) (g.S.Shelf.faults l.shelf);
  links : g.L.Link.faults l.fn.link ≤ g.L.Link.faults l.link;
}
