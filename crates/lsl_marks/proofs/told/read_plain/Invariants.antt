use Rattle.std.proofs.Common.{◌≡◌}
use Rattle.std.specs.Prelude.{All}
use Rattle.lsl_marks.specs.declared.entries.Entry.{Entry}
use Rattle.lsl_marks.proofs.told.read_plain.Given as goal

abbrev pub invariant-loop-at : goal.invariant-loop-at
invariant-loop-at l = All (λ (e : Entry). e.step ≡ 0) l.entries.items
