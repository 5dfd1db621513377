use Rattle.std.proofs.Common.{rules}
use Rattle.refused_front.proofs.pure.list_of_csv.Goals as goal

pub returns : goal.returns
returns c = search rules
