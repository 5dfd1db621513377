use Rattle.lsl_data.proofs.PairLemmas.{value-with_pair, value-without}
use Rattle.lsl_data.proofs.laws.changes_are_read.Goals as goal

pub returns-clause-given : goal.returns-clause-given
returns-clause-given c = value-with_pair

pub returns-clause-taken : goal.returns-clause-taken
returns-clause-taken c = value-without
