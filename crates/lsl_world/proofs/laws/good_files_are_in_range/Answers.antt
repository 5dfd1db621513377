use Rattle.lsl_world.proofs.Ranges.{good-in_range}
use Rattle.lsl_world.proofs.laws.good_files_are_in_range.Goals as goal

pub returns : goal.returns
returns c = good-in_range
