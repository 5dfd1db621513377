use Rattle.std.proofs.Common.{arith}
use Rattle.lsl_pure.proofs.ByteLemmas.{offsets-ordered}
use Rattle.lsl_pure.proofs.spelling.offsets.Goals as goal

pub returns-clause-ordered : goal.returns-clause-ordered
returns-clause-ordered c = omega (arith, offsets-ordered c.args.start c.args.end c.args.text.now c.requires)
