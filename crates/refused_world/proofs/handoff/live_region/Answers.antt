use Rattle.std.proofs.Common.{rules}
use Rattle.refused_world.proofs.handoff.live_region.Goals as goal

pub returns : goal.returns
returns c = search rules
