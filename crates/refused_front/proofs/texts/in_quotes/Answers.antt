use Rattle.std.proofs.Common.{rules}
use Rattle.refused_front.proofs.texts.in_quotes.Goals as goal

pub returns : goal.returns
returns c = search rules
