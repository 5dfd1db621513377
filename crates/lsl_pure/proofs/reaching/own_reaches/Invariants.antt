use Rattle.std.proofs.Common.{◌≡◌, ◌≤◌, length, drop, nat_eq}
use Rattle.std.specs.List.{common_prefix_len}
use Rattle.lsl_pure.specs.Firsts.{AreOwn}
use Rattle.lsl_pure.proofs.reaching.own_reaches.Given as goal

abbrev pub invariant-places : goal.invariant-places
invariant-places l = record {
  size : length l.own.items ≡ l.at;
  own : AreOwn l.mark l.own.items;
  inside : 1 ≤ l.reach.place;
  ordered : l.reach.place ≤ l.at;
  reached : l.reach.len ≡ common_prefix_len nat_eq (drop l.reach.place l.mark) l.mark;
}
