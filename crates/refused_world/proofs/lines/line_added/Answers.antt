use Rattle.std.proofs.Common.{rules}
use Rattle.refused_world.proofs.lines.line_added.Goals as goal

pub returns : goal.returns
returns c = search rules
