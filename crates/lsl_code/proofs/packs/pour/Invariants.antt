use Rattle.std.proofs.Common.{◌≡◌, ◌≤◌, ◌++◌, length, reverse}
use Rattle.lsl_code.proofs.packs.pour.Given as goal

-- what was moved follows the old ones, from the last
abbrev pub invariant-loop-value : goal.invariant-loop-value
invariant-loop-value l = record {
  moved : l.to.items ++ reverse l.from.items ≡ l.fn.to.items ++ reverse l.fn.from.items;
  longer : length l.fn.to.items ≤ length l.to.items;
}

abbrev pub decreases-loop-value : goal.decreases-loop-value
decreases-loop-value l = goal.left-loop-value l
