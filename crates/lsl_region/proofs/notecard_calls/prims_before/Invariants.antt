use Rattle.std.proofs.Common.{◌≡◌, take}
use Rattle.lsl_region.specs.Notes.{prims_in}
use Rattle.lsl_region.proofs.notecard_calls.prims_before.Given as goal

abbrev pub invariant-loop-object : goal.invariant-loop-object
invariant-loop-object l = l.prims ≡ prims_in (take l.object-index l.objects)
