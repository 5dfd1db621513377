use Rattle.lsl_script.proofs.Mail.{resting_timer_is_its, stays_fitting}
use Rattle.lsl_script.proofs.laws.timers_between_turns.Goals as goal

pub returns-clause-timer : goal.returns-clause-timer
returns-clause-timer c = resting_timer_is_its

pub returns-clause-fits : goal.returns-clause-fits
returns-clause-fits c = stays_fitting
