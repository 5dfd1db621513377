use Rattle.lsl_pure.proofs.NeedleLemmas.{FindsNeedle-first}
use Rattle.lsl_pure.proofs.searching.find_bytes.Goals as goal

pub returns-clause-first : goal.returns-clause-first
returns-clause-first c = FindsNeedle-first c.args.text.now c.args.sought.now c.find.result c.find.ensures
