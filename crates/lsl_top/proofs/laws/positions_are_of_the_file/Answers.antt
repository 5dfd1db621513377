use Rattle.lsl_top.proofs.Cuts.{positions-of-file}
use Rattle.lsl_top.proofs.laws.positions_are_of_the_file.Goals as goal

pub returns : goal.returns
returns c = positions-of-file
