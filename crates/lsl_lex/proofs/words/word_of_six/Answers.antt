use Rattle.std.proofs.Common.{arith}
use Rattle.std.specs.Prelude.{codes}
use Rattle.lsl_lex.proofs.WordLengths.{word_read}
use Rattle.lsl_lex.proofs.words.word_of_six.Goals as goal

pub returns-in-string : goal.returns-in-string
returns-in-string c = word_read 6 c.args.name.now (codes "string") (omega arith) (
  omega arith,
  (omega arith, (omega arith, (omega arith, (omega arith, (omega arith, tt))))),
)

pub returns-in-vector : goal.returns-in-vector
returns-in-vector c = word_read 6 c.args.name.now (codes "vector") (omega arith) (
  omega arith,
  (omega arith, (omega arith, (omega arith, (omega arith, (omega arith, tt))))),
)

pub returns-in-return : goal.returns-in-return
returns-in-return c = word_read 6 c.args.name.now (codes "return") (omega arith) (
  omega arith,
  (omega arith, (omega arith, (omega arith, (omega arith, (omega arith, tt))))),
)
