use Rattle.std.proofs.Common.{◌≡◌, ◌+◌, ◌-◌, [], sum_by}
use Rattle.lsl_image.specs.Layout.{grown}
use Rattle.lsl_image.specs.Object.{pair_behind, pair_bytes}
use Rattle.lsl_image.specs.Leading.{Leads}
use Rattle.lsl_image.proofs.store.read_pairs.Given as goal

-- this many pairs are read, and leave this much room
abbrev pub invariant-loop-i : goal.invariant-loop-i
invariant-loop-i l = record {
  left : sum_by pair_bytes l.pairs + l.room ≡ 65536;
  leads : Leads l.bytes (grown (l.count - l.i) pair_behind l.pairs) l.next (λ list. list)
      (grown l.count pair_behind []) l.place;
}
