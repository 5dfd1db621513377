use Rattle.lsl_table.proofs.CallLemmas.{Finds-builtin_named}
use Rattle.lsl_table.proofs.ConstantLemmas.{Finds-constant_named}
use Rattle.lsl_table.proofs.EventLemmas.{Finds-event_named}
use Rattle.lsl_table.proofs.laws.names_are_found.Goals as goal

pub returns : goal.returns
returns c = record { calls = Finds-builtin_named; events = Finds-event_named; constants = Finds-constant_named }
