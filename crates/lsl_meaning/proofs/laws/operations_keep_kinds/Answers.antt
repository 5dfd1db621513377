use Rattle.lsl_meaning.proofs.KindLemmas as lemmas
use Rattle.lsl_meaning.proofs.laws.operations_keep_kinds.Goals as goal

pub returns-clause-operators : goal.returns-clause-operators
returns-clause-operators c = lemmas.operators

pub returns-clause-casts : goal.returns-clause-casts
returns-clause-casts c = lemmas.casts
