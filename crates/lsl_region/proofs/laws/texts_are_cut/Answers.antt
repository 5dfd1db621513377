use Rattle.lsl_region.proofs.Cuts.{cut_short, cut_whole}
use Rattle.lsl_region.proofs.laws.texts_are_cut.Goals as goal

pub returns-clause-short : goal.returns-clause-short
returns-clause-short c = cut_short

pub returns-clause-whole : goal.returns-clause-whole
returns-clause-whole c = cut_whole
