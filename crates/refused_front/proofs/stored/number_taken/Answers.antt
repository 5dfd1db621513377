use Rattle.std.proofs.Common.{rules}
use Rattle.refused_front.proofs.stored.number_taken.Goals as goal

pub returns : goal.returns
returns c = search rules
