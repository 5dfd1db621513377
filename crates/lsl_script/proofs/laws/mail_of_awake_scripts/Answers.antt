use Rattle.lsl_script.proofs.Mail.{listens_are_its, stays_awake, timer_is_its}
use Rattle.lsl_script.proofs.laws.mail_of_awake_scripts.Goals as goal

pub returns-clause-listens : goal.returns-clause-listens
returns-clause-listens c = listens_are_its

pub returns-clause-timer : goal.returns-clause-timer
returns-clause-timer c = timer_is_its

pub returns-clause-awake : goal.returns-clause-awake
returns-clause-awake c = stays_awake
