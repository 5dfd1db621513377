use Rattle.std.proofs.Common.{◌≡◌, [], length, drop}
use Rattle.lsl_bodies.specs.Scope.{scope_of}
use Rattle.lsl_bodies.specs.Verdict.{each_verdict}
use Rattle.lsl_type.specs.HeaderVerdicts.{next_part_verdict}
use Rattle.lsl_type.proofs.initials.parts.Given as goal

abbrev pub invariant-loop-atom : goal.invariant-loop-atom
invariant-loop-atom l = record {
  counted : length l.parts.items ≡ l.atom-index;
  same : each_verdict (next_part_verdict (scope_of l.scope)) l.parts.items (drop l.atom-index l.atoms)
      ≡ each_verdict (next_part_verdict (scope_of l.scope)) [] l.atoms;
}
