use Rattle.lsl_code.proofs.ModeRuns.{one_restoring, restoring_keeps}
use Rattle.lsl_code.proofs.mode_laws.restoring_has_one_result.Goals as goal

pub returns-clause-one : goal.returns-clause-one
returns-clause-one c = one_restoring

pub returns-clause-kept : goal.returns-clause-kept
returns-clause-kept c = restoring_keeps
