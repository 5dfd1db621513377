use Rattle.std.proofs.Common.{drop}
use Rattle.lsl_image.specs.Layout.{each, each_behind}
use Rattle.lsl_image.specs.World.{placed}
use Rattle.lsl_image.specs.Leading.{Leads}
use Rattle.lsl_image.proofs.world.read_objects.Given as goal

-- this many are read
abbrev pub invariant-loop-shape : goal.invariant-loop-shape
invariant-loop-shape l = Leads l.bytes
    (each_behind (placed l.version l.library) (drop l.shape-index l.shapes) l.objects) l.next
    (λ list. list) (each (placed l.version l.library) l.shapes) l.place
