use Rattle.std.proofs.Common.{◌≡◌, ◌++◌, take}
use Rattle.lsl_marks.specs.Said.{said_in}
use Rattle.lsl_marks.proofs.told.difference.Given as goal

abbrev pub invariant-loop-entry : goal.invariant-loop-entry
invariant-loop-entry l = said_in (take l.entry-index l.entries) ++ l.rest ≡ l.fn.plain
