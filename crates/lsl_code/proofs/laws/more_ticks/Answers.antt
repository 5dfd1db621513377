use Rattle.lsl_code.proofs.Resuming.{more_ticks}
use Rattle.lsl_code.proofs.WholeLaws.{ticks_change_nothing}
use Rattle.lsl_code.proofs.laws.more_ticks.Goals as goal

pub returns-clause-run : goal.returns-clause-run
returns-clause-run c = more_ticks

pub returns-clause-whole : goal.returns-clause-whole
returns-clause-whole c = ticks_change_nothing
