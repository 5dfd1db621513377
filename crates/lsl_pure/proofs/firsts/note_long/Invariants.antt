use Rattle.std.proofs.Common.{◌≡◌, ◌≤◌, drop, nat_eq}
use Rattle.std.specs.List.{common_prefix_len}
use Rattle.lsl_pure.proofs.FirstLemmas.{AreNotedBefore}
use Rattle.lsl_pure.proofs.firsts.note_long.Given as goal

abbrev pub invariant-places : goal.invariant-places
invariant-places l = record {
  noted : AreNotedBefore l.mark l.number l.text l.initial.firsts l.firsts l.at;
  ordered : l.reach.place ≤ l.at;
  reached : l.reach.len ≡ common_prefix_len nat_eq (drop l.reach.place l.text) l.mark;
}
