use Rattle.std.proofs.Common.{rules}
use Rattle.refused_world.proofs.regions.timer_read.Goals as goal

pub returns : goal.returns
returns c = search rules
