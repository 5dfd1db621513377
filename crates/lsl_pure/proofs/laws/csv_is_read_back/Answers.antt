use Rattle.lsl_pure.proofs.LawRoundTrips.{csv_elements-csv_text}
use Rattle.lsl_pure.proofs.laws.csv_is_read_back.Goals as goal

pub returns : goal.returns
returns c = csv_elements-csv_text c.args.items.now c.requires
