use Rattle.std.proofs.Common.{arith}
use Rattle.std.specs.Prelude.{codes}
use Rattle.lsl_lex.proofs.WordLengths.{word_read}
use Rattle.lsl_lex.proofs.words.word_of_ten.Goals as goal

pub returns-in-quaternion : goal.returns-in-quaternion
returns-in-quaternion c = word_read 10 c.args.name.now (codes "quaternion") (omega arith) (
  omega arith,
  (
    omega arith,
    (
      omega arith,
      (
        omega arith,
        (omega arith, (omega arith, (omega arith, (omega arith, (omega arith, (omega arith, tt)))))),
      ),
    ),
  ),
)
