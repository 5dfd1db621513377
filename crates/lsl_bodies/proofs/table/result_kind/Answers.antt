use Rattle.std.proofs.Common.{rules}
use Rattle.lsl_bodies.specs.Table.{result_of}
use Rattle.lsl_bodies.proofs.table.result_kind.Goals as goal

pub returns : goal.returns
unfolding result_of
returns c = search rules
