use Rattle.std.proofs.Common.{◌≡◌, drop, length, map}
use Rattle.std.specs.List.{position_from}
use Rattle.std.specs.Ordering.{int_eq}
use Rattle.lsl_post.specs.Listens.{number_of, place_of_number}
use Rattle.lsl_post.proofs.listen_table.ListenTable.place_of.Given as goal

-- the listens before this one have other numbers
abbrev pub invariant-loop-place : goal.invariant-loop-place
invariant-loop-place l = record {
  same : place_of_number l.number l.self.list
      ≡ position_from (int_eq l.number) l.place (map number_of (drop l.place l.self.list));
  end : l.place-end ≡ length l.self.list;
}
