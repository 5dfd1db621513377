use Rattle.lsl_meaning.proofs.GlobalLemmas as lemmas
use Rattle.lsl_meaning.proofs.laws.globals_keep_kinds.Goals as goal

pub returns : goal.returns
returns c = lemmas.globals
