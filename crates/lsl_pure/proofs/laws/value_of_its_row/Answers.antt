use Rattle.lsl_pure.proofs.KindLemmas.{value_of-row, pure_of-kind}
use Rattle.lsl_pure.proofs.laws.value_of_its_row.Goals as goal

pub returns : goal.returns
returns c = record { value = value_of-row c.args.id; kind = pure_of-kind c.args.id }
