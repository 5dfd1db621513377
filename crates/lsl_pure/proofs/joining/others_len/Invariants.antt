use Rattle.std.proofs.Common.{◌≡◌, ◌≤◌, ◌+◌, ◌*◌, length, map, drop}
use Rattle.lsl_pure.specs.Joins.{each_behind}
use Rattle.lsl_pure.specs.Spelling.{spelled_atom}
use Rattle.lsl_pure.proofs.joining.others_len.Given as goal

abbrev pub invariant-atoms : goal.invariant-atoms
invariant-atoms l =
    (l.len + length (each_behind l.separator (map spelled_atom (drop l.atom-index l.atoms)))
    ≡ length (each_behind l.separator (map spelled_atom l.atoms))) × (l.len ≤ l.atom-index * 2097152)
