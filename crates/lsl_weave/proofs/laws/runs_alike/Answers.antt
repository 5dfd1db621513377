use Rattle.lsl_weave.proofs.Moved.{goes_on}
use Rattle.lsl_weave.proofs.Running.{runs_alike}
use Rattle.lsl_weave.proofs.laws.runs_alike.Goals as goal

pub returns-clause-run : goal.returns-clause-run
returns-clause-run c = runs_alike

pub returns-clause-on : goal.returns-clause-on
returns-clause-on c = goes_on
