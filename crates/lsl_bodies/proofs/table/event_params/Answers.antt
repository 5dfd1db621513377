use Rattle.std.proofs.Common.{rules}
use Rattle.lsl_bodies.specs.Table.{event_params_of}
use Rattle.lsl_bodies.proofs.table.event_params.Goals as goal

pub returns : goal.returns
unfolding event_params_of
returns c = search rules
