use Rattle.lsl_value.proofs.TextLemmas.{pointwise-encodes}
use Rattle.lsl_value.proofs.characters.TextPartialEq.eq.Goals as goal

pub returns : goal.returns
returns c = let same = pointwise-encodes c.args.self.now c.args.other.now in cc
