use Rattle.std.proofs.Common.{◌≡◌, drop}
use Rattle.lsl_bodies.proofs.Walks.{flat_from}
use Rattle.lsl_bodies.proofs.operators.flat.Given as goal

abbrev pub invariant-loop-i : goal.invariant-loop-i
invariant-loop-i l = flat_from (drop l.i l.exprs) (drop l.i l.nodes) ≡ flat_from l.exprs l.nodes
