use Rattle.std.proofs.Common.{rules}
use Rattle.refused_world.proofs.worlds.viewed.Goals as goal

pub returns : goal.returns
returns c = search rules
