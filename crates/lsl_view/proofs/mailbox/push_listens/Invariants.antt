use Rattle.std.proofs.Common.{◌≡◌, ◌++◌, length, take}
use Rattle.std.specs.List.{flat_map}
use Rattle.lsl_view.specs.State.{listen_line}
use Rattle.lsl_view.proofs.mailbox.push_listens.Given as goal

abbrev pub invariant-loop-place : goal.invariant-loop-place
invariant-loop-place l = record {
  written : l.out.items ≡ l.fn.out.items ++ flat_map listen_line (take l.place l.listens.list);
  end : l.place-end ≡ length l.listens.list;
}
