use Rattle.lsl_region.proofs.ChatLaws.{hears}
use Rattle.lsl_region.proofs.laws.scripts_hear_by_their_listens.Goals as goal

pub returns : goal.returns
returns c = hears
