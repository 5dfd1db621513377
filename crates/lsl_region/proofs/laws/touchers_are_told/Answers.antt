use Rattle.lsl_region.proofs.TellingLaws.{other-places, touchers-told, untouched}
use Rattle.lsl_region.proofs.laws.touchers_are_told.Goals as goal

pub returns-clause-toucher : goal.returns-clause-toucher
returns-clause-toucher c = touchers-told

pub returns-clause-other : goal.returns-clause-other
returns-clause-other c = other-places

pub returns-clause-nobody : goal.returns-clause-nobody
returns-clause-nobody c = untouched
