use Rattle.lsl_notes.proofs.Keys.{queries-differ}
use Rattle.lsl_notes.proofs.laws.queries_differ.Goals as goal

pub returns : goal.returns
returns c = queries-differ
