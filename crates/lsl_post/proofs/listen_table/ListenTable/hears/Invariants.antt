use Rattle.std.proofs.Common.{◌≡◌, drop, length}
use Rattle.lsl_post.specs.Filters.{filter}
use Rattle.lsl_post.specs.Listens.{hears, standing}
use Rattle.lsl_post.proofs.listen_table.ListenTable.hears.Given as goal

-- the listens before this one don't hear
abbrev pub invariant-loop-place : goal.invariant-loop-place
invariant-loop-place l = record {
  same : hears (filter l.channel l.name l.id l.message) l.self
      ≡ hears (filter l.channel l.name l.id l.message) (standing l.self.next (drop l.place l.self.list));
  end : l.place-end ≡ length l.self.list;
}
