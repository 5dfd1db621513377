use Rattle.lsl_notes.proofs.Fronts.{no-bad-line}
use Rattle.lsl_notes.proofs.laws.texts_have_no_bad_line.Goals as goal

pub returns : goal.returns
returns c = no-bad-line
