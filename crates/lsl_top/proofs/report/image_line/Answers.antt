use Rattle.std.proofs.Common.{arith}
use Rattle.lsl_top.proofs.report.image_line.Goals as goal

pub returns-clause-bytes : goal.returns-clause-bytes
returns-clause-bytes c = λ i. let f = c.type_inv.image i in omega arith
