use Rattle.std.proofs.Common.{◌≡◌, ◌+◌, ◌-◌, ◌≤◌, length, drop, nat_eq}
use Rattle.std.specs.List.{common_prefix_len}
use Rattle.lsl_pure.proofs.reaching.common_len.Given as goal

abbrev pub invariant-bytes : goal.invariant-bytes
invariant-bytes l = record {
  first : l.len ≤ length l.a;
  second : l.len ≤ length l.b;
  common : l.len + common_prefix_len nat_eq (drop l.len l.a) (drop l.len l.b) ≡ common_prefix_len nat_eq l.a l.b;
}

abbrev pub decreases-bytes : goal.decreases-bytes
decreases-bytes l = length l.a - l.len
