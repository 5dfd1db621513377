use Rattle.lsl_code.proofs.Further.{more_answers}
use Rattle.lsl_code.proofs.WholeLaws.{answers_change_nothing}
use Rattle.lsl_code.proofs.laws.more_answers.Goals as goal

pub returns-clause-run : goal.returns-clause-run
returns-clause-run c = more_answers

pub returns-clause-whole : goal.returns-clause-whole
returns-clause-whole c = answers_change_nothing
