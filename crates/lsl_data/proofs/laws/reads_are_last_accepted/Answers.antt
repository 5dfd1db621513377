use Rattle.lsl_data.proofs.Histories.{reads-are-last}
use Rattle.lsl_data.proofs.laws.reads_are_last_accepted.Goals as goal

pub returns : goal.returns
returns c = reads-are-last
