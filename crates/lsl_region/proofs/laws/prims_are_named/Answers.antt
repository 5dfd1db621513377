use Rattle.lsl_region.proofs.ChatLaws.{names}
use Rattle.lsl_region.proofs.laws.prims_are_named.Goals as goal

pub returns : goal.returns
returns c = names
