use Rattle.lsl_code.proofs.MachineKinds.{nothing_is_stuck, begins_kinded}
use Rattle.lsl_code.proofs.laws.nothing_is_stuck.Goals as goal

pub returns-clause-step : goal.returns-clause-step
returns-clause-step c = nothing_is_stuck

pub returns-clause-beginning : goal.returns-clause-beginning
returns-clause-beginning c = begins_kinded
