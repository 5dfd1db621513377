use Rattle.lsl_meaning.proofs.MoreHandlers as lemmas
use Rattle.lsl_meaning.proofs.laws.more_answers.Goals as goal

pub returns : goal.returns
returns c = lemmas.more_answers
