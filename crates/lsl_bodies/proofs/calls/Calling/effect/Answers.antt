use Rattle.std.proofs.Common.{rules}
use Rattle.lsl_tree.proofs.ProgramRows.{node_of-Call}
use Rattle.lsl_bodies.proofs.calls.Calling.effect.Goals as goal

pub returns-in-Some : goal.returns-in-Some
returns-in-Some c = rw node_of-Call (search rules)
