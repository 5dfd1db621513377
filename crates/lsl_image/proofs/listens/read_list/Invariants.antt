use Rattle.std.proofs.Common.{◌-◌, []}
use Rattle.lsl_image.specs.Layout.{grown}
use Rattle.lsl_image.specs.Script.{listen_behind}
use Rattle.lsl_image.specs.Leading.{Leads}
use Rattle.lsl_image.proofs.listens.read_list.Given as goal

-- this many listens are read
abbrev pub invariant-loop-i : goal.invariant-loop-i
invariant-loop-i l = Leads l.bytes (grown (l.count - l.i) listen_behind l.list) l.next (λ list. list)
    (grown l.count listen_behind []) l.place
