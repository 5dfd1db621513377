use Rattle.std.proofs.Common.{rules}
use Rattle.lsl_tree.proofs.ProgramRows.{node_of-Call}
use Rattle.lsl_bodies.proofs.calls.Calling.value.Goals as goal

pub returns : goal.returns
returns c = rw node_of-Call (search rules)
