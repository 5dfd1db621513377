use Rattle.lsl_pure.specs.Parsing.{marks_of}
use Rattle.lsl_pure.proofs.LawCuts.{cut-stands, cut-unique}
use Rattle.lsl_pure.proofs.MarkLemmas.{marks_of-have}
use Rattle.lsl_pure.proofs.laws.text_has_one_cut.Goals as goal

pub returns-clause-is_cut : goal.returns-clause-is_cut
returns-clause-is_cut c = cut-stands (marks_of c.args.separators.now c.args.spacers.now) c.args.text.now 0
    (marks_of-have c.args.separators.now c.args.spacers.now)

pub returns-clause-one : goal.returns-clause-one
returns-clause-one c = cut-unique (marks_of c.args.separators.now c.args.spacers.now) c.args.text.now
    (marks_of-have c.args.separators.now c.args.spacers.now)
