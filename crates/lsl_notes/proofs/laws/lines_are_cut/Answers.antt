use Rattle.lsl_notes.proofs.CutLaws.{cut_longest}
use Rattle.lsl_notes.proofs.laws.lines_are_cut.Goals as goal

pub returns : goal.returns
returns c = cut_longest 1024
