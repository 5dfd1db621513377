use Rattle.lsl_weave.specs.Layout.{width}
use Rattle.lsl_weave.specs.Tables.{IsTableTo}
use Rattle.lsl_weave.proofs.tables.shift_table.Given as goal

abbrev pub invariant-loop-i : goal.invariant-loop-i
invariant-loop-i l = IsTableTo 1 width l.code l.i l.table.items l.sum
