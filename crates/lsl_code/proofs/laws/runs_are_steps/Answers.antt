use Rattle.lsl_code.proofs.Running.{is_step_and_run}
use Rattle.lsl_code.proofs.laws.runs_are_steps.Goals as goal

pub returns : goal.returns
returns c = is_step_and_run
