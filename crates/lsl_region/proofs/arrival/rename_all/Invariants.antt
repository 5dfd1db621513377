use Rattle.std.proofs.Common.{◌≡◌, ◌≤◌, length}
use Rattle.lsl_region.specs.ObjectParts.{named}
use Rattle.lsl_region.proofs.arrival.rename_all.Given as goal

abbrev pub invariant-loop-name : goal.invariant-loop-name
invariant-loop-name l =
    (length l.names.items ≤ length l.prims) × (named l.prims l.names.items ≡ named l.fn.prims l.fn.names)

abbrev pub decreases-loop-name : goal.decreases-loop-name
decreases-loop-name l = length l.names.items
