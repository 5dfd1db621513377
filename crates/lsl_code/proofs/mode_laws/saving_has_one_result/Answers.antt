use Rattle.lsl_code.proofs.ModeRuns.{one_saving, saving_keeps}
use Rattle.lsl_code.proofs.mode_laws.saving_has_one_result.Goals as goal

pub returns-clause-one : goal.returns-clause-one
returns-clause-one c = one_saving

pub returns-clause-kept : goal.returns-clause-kept
returns-clause-kept c = saving_keeps
