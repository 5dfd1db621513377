use Rattle.lsl_pure.proofs.LawCsv.{csv_pieces-one, csv_pieces-stand}
use Rattle.lsl_pure.proofs.laws.text_has_one_csv_cut.Goals as goal

pub returns-clause-is_cut : goal.returns-clause-is_cut
returns-clause-is_cut c = csv_pieces-stand c.args.text.now

pub returns-clause-one : goal.returns-clause-one
returns-clause-one c = csv_pieces-one c.args.text.now
