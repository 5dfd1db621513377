use Rattle.std.proofs.Common.{rules}
use Rattle.lsl_bodies.specs.Table.{constant_kind_of}
use Rattle.lsl_bodies.proofs.table.constant_kind.Goals as goal

pub returns : goal.returns
unfolding constant_kind_of
returns c = search rules
