use Rattle.std.proofs.Common.{◌≡◌, length, drop}
use Rattle.lsl_bodies.specs.Known.{kinds_of}
use Rattle.lsl_bodies.specs.Sameness.{same_kinds}
use Rattle.lsl_type.proofs.params.has_kinds.Given as goal

abbrev pub invariant-loop-i : goal.invariant-loop-i
invariant-loop-i l = record {
  counted : length l.params ≡ length l.kinds;
  same : same_kinds (kinds_of (drop l.i l.params)) (drop l.i l.kinds) ≡ same_kinds (kinds_of l.params) l.kinds;
}
