use Rattle.lsl_parse.proofs.FirstFault.{unambiguous, one_first, no_first}
use Rattle.lsl_parse.proofs.laws.unambiguous.Goals as goal

pub returns-clause-tree : goal.returns-clause-tree
returns-clause-tree c = λ tokens one other d e. unambiguous tokens one other d e

pub returns-clause-fault : goal.returns-clause-fault
returns-clause-fault c = λ tokens here there kind other f g. one_first here there tokens kind other f g

pub returns-clause-apart : goal.returns-clause-apart
returns-clause-apart c = λ tokens tree place kind d f. no_first place tokens kind tree d f
