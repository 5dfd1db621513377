use Rattle.std.proofs.Common.{sym, ◌∙◌}
use Rattle.lsl_top.proofs.Numbers.{number-other, number-some, number-unread}
use Rattle.lsl_top.proofs.words.number_in.Goals as goal

pub returns-then-is_number_of : goal.returns-then-is_number_of
returns-then-is_number_of c =
    number-some c.args.word.now c.in-Ok.number (sym c.is_number_of.ensures ∙ c.if-is_number_of.true)

pub returns-else-is_number_of : goal.returns-else-is_number_of
returns-else-is_number_of c =
    number-other c.args.word.now c.parse.result c.in-Ok.number c.parse.ensures.value.0 c.in-Ok.is
    (sym c.is_number_of.ensures ∙ c.if-is_number_of.false)

pub returns-in-Err : goal.returns-in-Err
returns-in-Err c = number-unread c.args.word.now c.parse.result c.in-Err.field-0 c.parse.ensures.value.0 c.in-Err.is
