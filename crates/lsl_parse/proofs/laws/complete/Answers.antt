use Rattle.lsl_parse.proofs.Answering.{complete_tree, complete_fault}
use Rattle.lsl_parse.proofs.laws.complete.Goals as goal

pub returns-clause-tree : goal.returns-clause-tree
returns-clause-tree c = λ tokens end tree d. complete_tree tokens end tree d

pub returns-clause-fault : goal.returns-clause-fault
returns-clause-fault c = λ tokens end place kind f. complete_fault tokens end place kind f
