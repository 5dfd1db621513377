use Rattle.std.proofs.Common.{◌≡◌, length, take}
use Rattle.lsl_data.proofs.store.Store.from_pairs.Given as goal

abbrev pub invariant-loop-pair : goal.invariant-loop-pair
invariant-loop-pair l = l.store ≡ take (length l.yielded) l.fn.pairs
