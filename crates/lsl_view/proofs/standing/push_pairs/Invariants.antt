use Rattle.std.proofs.Common.{◌≡◌, ◌++◌, take}
use Rattle.std.specs.List.{flat_map}
use Rattle.lsl_view.specs.State.{pair_line}
use Rattle.lsl_view.proofs.standing.push_pairs.Given as goal

abbrev pub invariant-pairs : goal.invariant-pairs
invariant-pairs l = l.out.items ≡ l.fn.out.items ++ flat_map pair_line (take l.pair-index l.pairs)
