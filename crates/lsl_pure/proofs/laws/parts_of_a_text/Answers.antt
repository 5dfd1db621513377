use Rattle.lsl_pure.proofs.LawLemmas.{parts-deleted, parts-whole}
use Rattle.lsl_pure.proofs.laws.parts_of_a_text.Goals as goal

pub returns-clause-whole : goal.returns-clause-whole
returns-clause-whole c = parts-whole c.args.text.now c.args.first c.args.last c.requires

pub returns-clause-deleted : goal.returns-clause-deleted
returns-clause-deleted c = parts-deleted c.args.text.now c.args.first c.args.last c.requires
