use Rattle.lsl_pure.proofs.LawLemmas.{length-taken}
use Rattle.lsl_pure.proofs.laws.length_of_a_part.Goals as goal

pub returns : goal.returns
returns c = length-taken c.args.text.now c.args.first c.args.last c.requires.ordered c.requires.inside
