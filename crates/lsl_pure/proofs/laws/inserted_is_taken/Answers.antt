use Rattle.lsl_pure.proofs.LawLemmas.{taken-inserted}
use Rattle.lsl_pure.proofs.laws.inserted_is_taken.Goals as goal

pub returns : goal.returns
returns c = taken-inserted c.args.text.now c.args.other.now c.args.place c.requires.inside c.requires.some
