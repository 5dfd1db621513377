use Rattle.std.proofs.Common.{◌-◌}
use Rattle.lsl_image.specs.Layout.{TextForm, field, grown, repeated}
use Rattle.lsl_image.specs.Leading.{Leads}
use Rattle.lsl_image.proofs.object.read_names.Given as goal

-- this many names are read
abbrev pub invariant-loop-i : goal.invariant-loop-i
invariant-loop-i l = Leads l.bytes (grown (l.count - l.i) (λ before. field TextForm) l.names) l.next (λ list. list)
    (repeated l.count (field TextForm)) l.place
