use Rattle.std.proofs.Common.{◌≡◌, map, take}
use Rattle.std.specs.List.{AllZip}
use Rattle.lsl_ports.specs.Counts.{NoneFell}
use Rattle.lsl_top.specs.Ports.{IsRead}
use Rattle.lsl_top.proofs.reading.read_scripts.Given as goal

abbrev pub invariant-loop-name : goal.invariant-loop-name
invariant-loop-name g l =
    record {
      read : AllZip (IsRead (g.S.Shelf.held l.fn.shelf)) (take l.name-index (map (λ n. n.now) l.names))
          (map (λ t. t.items) l.texts.items);
      held : g.S.Shelf.held l.shelf ≡ g.S.Shelf.held l.fn.shelf;
      counted : NoneFell (g.S.Shelf.faults l.fn.shelf) (g.S.Shelf.faults l.shelf);
    }
