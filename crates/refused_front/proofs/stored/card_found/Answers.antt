use Rattle.std.proofs.Common.{rules}
use Rattle.refused_front.proofs.stored.card_found.Goals as goal

pub returns : goal.returns
returns c = search rules
