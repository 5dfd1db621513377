use Rattle.std.proofs.Common.{◌≡◌, take}
use Rattle.lsl_value.proofs.shared.copied.Given as goal

abbrev pub invariant-loop-atom : goal.invariant-loop-atom
invariant-loop-atom l = l.copied.items ≡ take l.atom-index l.atoms
