use Rattle.lsl_weave.proofs.Forwards.{units_go_forward}
use Rattle.lsl_weave.proofs.Hosts.{asks_alike}
use Rattle.lsl_weave.proofs.Units.{units_come_to_same, units_run_alike}
use Rattle.lsl_weave.proofs.unit_laws.units_run_alike.Goals as goal

pub returns-clause-run : goal.returns-clause-run
returns-clause-run c = units_run_alike

pub returns-clause-forward : goal.returns-clause-forward
returns-clause-forward c = units_go_forward

pub returns-clause-whole : goal.returns-clause-whole
returns-clause-whole c = units_come_to_same

pub returns-clause-asks : goal.returns-clause-asks
returns-clause-asks c = asks_alike
