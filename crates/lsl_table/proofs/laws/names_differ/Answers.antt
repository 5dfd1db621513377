use Rattle.lsl_table.proofs.CallLemmas.{builtins-differ}
use Rattle.lsl_table.proofs.ConstantLemmas.{constants-differ}
use Rattle.lsl_table.proofs.EventLemmas.{events-differ}
use Rattle.lsl_table.proofs.laws.names_differ.Goals as goal

pub returns : goal.returns
returns c = record { calls = builtins-differ; events = events-differ; constants = constants-differ }
