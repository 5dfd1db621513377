use Rattle.std.proofs.Common.{◌≡◌, drop}
use Rattle.lsl_type.specs.HeaderVerdicts.{flat_parts_verdict}
use Rattle.lsl_type.proofs.initials.flat_parts.Given as goal

abbrev pub invariant-loop-i : goal.invariant-loop-i
invariant-loop-i l = flat_parts_verdict (drop l.i l.atoms) (drop l.i l.parts) ≡ flat_parts_verdict l.atoms l.parts
