use Rattle.std.proofs.Common.{rules}
use Rattle.refused_world.proofs.compiler.built.Goals as goal

pub returns : goal.returns
returns c = search rules
