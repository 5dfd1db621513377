use Rattle.std.proofs.Common.{length}
use Rattle.lsl_lex.proofs.Loop.{Cutting}
use Rattle.lsl_lex.proofs.cut.cut.Given as goal

abbrev pub invariant-pieces : goal.invariant-pieces
invariant-pieces l = Cutting l.text l.rest l.list.items l.cursor

abbrev pub decreases-pieces : goal.decreases-pieces
decreases-pieces l = length l.rest
