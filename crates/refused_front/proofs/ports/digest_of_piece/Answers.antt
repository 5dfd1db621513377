use Rattle.std.proofs.Common.{rules}
use Rattle.refused_front.proofs.ports.digest_of_piece.Goals as goal

pub returns : goal.returns
returns c = search rules
