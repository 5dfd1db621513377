use Rattle.std.proofs.Common.{sym, ◌∙◌, arith}
use Rattle.lsl_lex.proofs.WordLengths.{word_of_length}
use Rattle.lsl_lex.proofs.words.word.Goals as goal

pub returns-in-2 : goal.returns-in-2
returns-in-2 c = c.word_of_two.ensures ∙ sym (word_of_length 2 c.args.name.now (omega arith))

pub returns-in-3 : goal.returns-in-3
returns-in-3 c = c.word_of_three.ensures ∙ sym (word_of_length 3 c.args.name.now (omega arith))

pub returns-in-4 : goal.returns-in-4
returns-in-4 c = c.word_of_four.ensures ∙ sym (word_of_length 4 c.args.name.now (omega arith))

pub returns-in-5 : goal.returns-in-5
returns-in-5 c = c.word_of_five.ensures ∙ sym (word_of_length 5 c.args.name.now (omega arith))

pub returns-in-6 : goal.returns-in-6
returns-in-6 c = c.word_of_six.ensures ∙ sym (word_of_length 6 c.args.name.now (omega arith))

pub returns-in-7 : goal.returns-in-7
returns-in-7 c = c.word_of_seven.ensures ∙ sym (word_of_length 7 c.args.name.now (omega arith))

pub returns-in-8 : goal.returns-in-8
returns-in-8 c = c.word_of_eight.ensures ∙ sym (word_of_length 8 c.args.name.now (omega arith))
