use Rattle.std.proofs.Common.{◌≡◌, ◌++◌}
use Rattle.lsl_made.proofs.WorldLines.{objects_text}
use Rattle.lsl_made.proofs.world.push_objects.Given as goal

abbrev pub invariant-objects : goal.invariant-objects
invariant-objects l = l.out.items ≡ l.fn.out.items ++ objects_text l.object
