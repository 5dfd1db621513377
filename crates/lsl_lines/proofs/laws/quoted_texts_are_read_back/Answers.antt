use Rattle.lsl_lines.proofs.ReadBack.{read_back}
use Rattle.lsl_lines.proofs.laws.quoted_texts_are_read_back.Goals as goal

pub returns : goal.returns
returns c = read_back
