use Rattle.std.proofs.Common.{◌≡◌, ◌++◌, map, drop}
use Rattle.std.specs.Str.{IsUtf8}
use Rattle.lsl_pure.specs.Joins.{each_behind}
use Rattle.lsl_pure.specs.Spelling.{spelled_atom}
use Rattle.lsl_pure.proofs.joining.push_others.Given as goal

abbrev pub invariant-atoms : goal.invariant-atoms
invariant-atoms l =
    (l.out.items ++ each_behind l.separator (map spelled_atom (drop l.atom-index l.atoms))
    ≡ l.initial.out.items ++ each_behind l.separator (map spelled_atom l.atoms)) × IsUtf8 l.out.items
