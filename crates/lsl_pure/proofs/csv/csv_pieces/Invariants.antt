use Rattle.lsl_pure.proofs.CsvLemmas.{IsSplitting}
use Rattle.lsl_pure.proofs.csv.csv_pieces.Given as goal

abbrev pub invariant-bytes : goal.invariant-bytes
invariant-bytes l = IsSplitting l.text l.items l.start l.at l.depth
