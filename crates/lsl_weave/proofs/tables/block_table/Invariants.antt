use Rattle.lsl_weave.specs.Tables.{IsTableTo, block_width}
use Rattle.lsl_weave.proofs.tables.block_table.Given as goal

abbrev pub invariant-loop-i : goal.invariant-loop-i
invariant-loop-i l = IsTableTo l.start (block_width l.slots l.extra) l.points l.i l.table.items l.sum
