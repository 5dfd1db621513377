use Rattle.lsl_region.proofs.CutLaws.{cut_longest}
use Rattle.lsl_region.proofs.laws.longest_beginnings_are_kept.Goals as goal

pub returns-clause-speech : goal.returns-clause-speech
returns-clause-speech c = cut_longest 1024

pub returns-clause-names : goal.returns-clause-names
returns-clause-names c = cut_longest 63
