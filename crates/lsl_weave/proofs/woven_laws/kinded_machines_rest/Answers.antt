use Rattle.lsl_weave.proofs.Resting.{kinded_machines_rest, resting_calls_are_kinded}
use Rattle.lsl_weave.proofs.woven_laws.kinded_machines_rest.Goals as goal

pub returns-clause-rest : goal.returns-clause-rest
returns-clause-rest c = kinded_machines_rest

pub returns-clause-kinded : goal.returns-clause-kinded
returns-clause-kinded c = resting_calls_are_kinded
