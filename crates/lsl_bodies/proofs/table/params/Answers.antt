use Rattle.std.proofs.Common.{rules}
use Rattle.lsl_bodies.specs.Table.{params_of}
use Rattle.lsl_bodies.proofs.table.params.Goals as goal

pub returns : goal.returns
unfolding params_of
returns c = search rules
