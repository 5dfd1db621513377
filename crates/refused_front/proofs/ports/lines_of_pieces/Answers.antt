use Rattle.std.proofs.Common.{rules}
use Rattle.refused_front.proofs.ports.lines_of_pieces.Goals as goal

pub returns : goal.returns
returns c = search rules
