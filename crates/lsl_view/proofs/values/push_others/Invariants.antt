use Rattle.std.proofs.Common.{◌≡◌, ◌++◌, map, take}
use Rattle.std.specs.List.{flat_map}
use Rattle.lsl_view.specs.Values.{behind_comma, element_word}
use Rattle.lsl_view.proofs.values.push_others.Given as goal

abbrev pub invariant-atoms : goal.invariant-atoms
invariant-atoms l = l.out.items ≡ l.fn.out.items ++ flat_map behind_comma (map element_word (take l.atom-index l.atoms))
