use Rattle.std.proofs.Common.{◌≡◌, ◌++◌}
use Rattle.lsl_post.proofs.listen_table.ListenTable.from_list.Given as goal

-- the listens that were added, and then the others
abbrev pub invariant-loop-listen : goal.invariant-loop-listen
invariant-loop-listen l = record {
  next : l.listens.next
      ≡ l.next;
  all : l.listens.list ++ l.listen-iterator.rest.items ≡ l.fn.list.items;
}
