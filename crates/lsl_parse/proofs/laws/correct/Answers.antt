use Rattle.lsl_parse.proofs.Answering.{correct_tree, correct_fault}
use Rattle.lsl_parse.proofs.laws.correct.Goals as goal

pub returns-clause-tree : goal.returns-clause-tree
returns-clause-tree c = λ tokens end tree e. correct_tree tokens end tree e

pub returns-clause-fault : goal.returns-clause-fault
returns-clause-fault c = λ tokens end fault e. correct_fault tokens end fault e
