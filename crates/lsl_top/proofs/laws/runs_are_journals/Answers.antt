use Rattle.lsl_top.proofs.Journals.{runs-journals}
use Rattle.lsl_top.proofs.laws.runs_are_journals.Goals as goal

pub returns : goal.returns
returns c = runs-journals
