use Rattle.std.proofs.Common.{drop, slice_get}
use Rattle.lsl_image.specs.Layout.{each, each_behind}
use Rattle.lsl_image.specs.Object.{script_of}
use Rattle.lsl_image.specs.Leading.{Leads}
use Rattle.lsl_image.proofs.object.read_scripts.Given as goal

-- this many are read
abbrev pub invariant-loop-number : goal.invariant-loop-number
invariant-loop-number l = Leads l.bytes
    (each_behind (λ number. script_of l.version number (slice_get l.library number))
    (drop l.number-index l.units) l.scripts) l.next
    (λ list. list) (each (λ number. script_of l.version number (slice_get l.library number)) l.units) l.place
