use Rattle.lsl_data.proofs.Histories.{stores-are-kept}
use Rattle.lsl_data.proofs.laws.stores_are_kept.Goals as goal

pub returns : goal.returns
returns c = stores-are-kept
