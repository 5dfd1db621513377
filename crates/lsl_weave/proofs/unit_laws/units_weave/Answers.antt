use Rattle.lsl_weave.proofs.Units.{units_save, units_restore, units_move}
use Rattle.lsl_weave.proofs.Weaves.{units_weave}
use Rattle.lsl_weave.proofs.unit_laws.units_weave.Goals as goal

pub returns-clause-save : goal.returns-clause-save
returns-clause-save c = units_save

pub returns-clause-restore : goal.returns-clause-restore
returns-clause-restore c = units_restore

pub returns-clause-back : goal.returns-clause-back
returns-clause-back c = units_move

pub returns-clause-weaves : goal.returns-clause-weaves
returns-clause-weaves c = units_weave
