use Rattle.std.proofs.Common.{arith}
use Rattle.std.specs.Prelude.{codes}
use Rattle.lsl_lex.proofs.WordLengths.{word_read}
use Rattle.lsl_lex.proofs.words.word_of_seven.Goals as goal

pub returns-in-integer : goal.returns-in-integer
returns-in-integer c = word_read 7 c.args.name.now (codes "integer") (omega arith) (
  omega arith,
  (omega arith, (omega arith, (omega arith, (omega arith, (omega arith, (omega arith, tt)))))),
)

pub returns-in-100 : goal.returns-in-100
returns-in-100 c = word_read 7 c.args.name.now (codes "default") (omega arith) (
  omega arith,
  (omega arith, (omega arith, (omega arith, (omega arith, (omega arith, (omega arith, tt)))))),
)
