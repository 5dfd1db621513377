use Rattle.std.proofs.Common.{◌≡◌, take, length}
use Rattle.lsl_post.specs.Listens.{standing}
use Rattle.lsl_post.proofs.listen_table.ListenTable.copy.Given as goal

-- the listens before this one are copied
abbrev pub invariant-loop-place : goal.invariant-loop-place
invariant-loop-place l = record {
  same : l.copied
      ≡ standing l.self.next (take l.place l.self.list);
  end : l.place-end ≡ length l.self.list;
}
