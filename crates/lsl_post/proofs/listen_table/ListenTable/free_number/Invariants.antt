use Rattle.std.proofs.Common.{◌≡◌, ◌+◌, ◌-◌, true, length}
use Rattle.lsl_post.specs.Listens.{first_free, free_number, is_number, numbers_from}
use Rattle.lsl_post.proofs.listen_table.ListenTable.free_number.Given as goal

-- the numbers before this one aren't free
abbrev pub invariant-loop-place : goal.invariant-loop-place
invariant-loop-place l = record {
  same : free_number l.self ≡ first_free l.self.list
      (numbers_from (length l.self.list - l._place + 1) l.number);
  number : is_number l.number ≡ true;
  end : l._place-end ≡ length l.self.list;
}
