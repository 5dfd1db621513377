use Rattle.lsl_weave.proofs.Charges.{machine_charge}
use Rattle.lsl_weave.proofs.Lift.{charge_lift}
use Rattle.lsl_weave.proofs.laws.charge_stays.Goals as goal

pub returns-clause-woven : goal.returns-clause-woven
returns-clause-woven c = λ bodies m. charge_lift bodies m.calls m.kept

pub returns-clause-frames : goal.returns-clause-frames
returns-clause-frames c = λ bodies handler m frames h. machine_charge bodies handler m.calls frames m.kept h
