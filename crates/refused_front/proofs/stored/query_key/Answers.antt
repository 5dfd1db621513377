use Rattle.std.proofs.Common.{rules}
use Rattle.refused_front.proofs.stored.query_key.Goals as goal

pub returns : goal.returns
returns c = search rules
