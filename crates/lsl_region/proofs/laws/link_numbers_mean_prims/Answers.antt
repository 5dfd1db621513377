use Rattle.lsl_region.proofs.LinkLaws.{children-mean, numbers-mean, others-mean, prims-numbered, this-means}
use Rattle.lsl_region.proofs.laws.link_numbers_mean_prims.Goals as goal

pub returns-clause-numbered : goal.returns-clause-numbered
returns-clause-numbered c = prims-numbered

pub returns-clause-others : goal.returns-clause-others
returns-clause-others c = others-mean

pub returns-clause-children : goal.returns-clause-children
returns-clause-children c = children-mean

pub returns-clause-this : goal.returns-clause-this
returns-clause-this c = this-means

pub returns-clause-numbers : goal.returns-clause-numbers
returns-clause-numbers c = numbers-mean
