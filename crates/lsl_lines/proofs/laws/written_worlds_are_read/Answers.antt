use Rattle.lsl_lines.proofs.WrittenWorlds.{each_is_read}
use Rattle.lsl_lines.proofs.laws.written_worlds_are_read.Goals as goal

pub returns : goal.returns
returns c = each_is_read
