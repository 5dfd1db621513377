use Rattle.std.proofs.Common.{arith}
use Rattle.std.specs.Prelude.{codes}
use Rattle.lsl_lex.proofs.WordLengths.{word_read}
use Rattle.lsl_lex.proofs.words.word_of_eight.Goals as goal

pub returns-in-rotation : goal.returns-in-rotation
returns-in-rotation c = word_read 8 c.args.name.now (codes "rotation") (omega arith) (
  omega arith,
  (omega arith, (omega arith, (omega arith, (omega arith, (omega arith, (omega arith, (omega arith, tt))))))),
)
