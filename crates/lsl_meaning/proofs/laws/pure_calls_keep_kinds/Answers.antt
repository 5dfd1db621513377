use Rattle.lsl_meaning.proofs.KindLemmas as lemmas
use Rattle.lsl_meaning.proofs.laws.pure_calls_keep_kinds.Goals as goal

pub returns-clause-arguments : goal.returns-clause-arguments
returns-clause-arguments c = lemmas.pure_arguments

pub returns-clause-result_kind : goal.returns-clause-result_kind
returns-clause-result_kind c = lemmas.pure_result
