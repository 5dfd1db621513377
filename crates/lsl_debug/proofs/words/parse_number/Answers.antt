use Rattle.lsl_debug.proofs.Numbers.{number-unread}
use Rattle.lsl_debug.proofs.words.parse_number.Goals as goal

-- src/words.rt
pub returns-in-Err : goal.returns-in-Err
returns-in-Err c = number-unread c.args.word.now c.parse.result c.in-Err.field-0 c.parse.ensures.value.0 c.in-Err.is
