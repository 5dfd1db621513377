use Rattle.lsl_top.proofs.KeptFrom.{kept-from}
use Rattle.lsl_top.proofs.laws.kept_from_each.Goals as goal

pub returns : goal.returns
returns c = kept-from
