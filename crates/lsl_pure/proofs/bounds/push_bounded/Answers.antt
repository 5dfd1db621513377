use Rattle.std.proofs.Common.{arith}
use Rattle.lsl_pure.proofs.ChargeLemmas.{length-le-charge}
use Rattle.lsl_pure.proofs.bounds.push_bounded.Goals as goal

pub push-requires : goal.push-requires
push-requires c = omega (arith, length-le-charge c.args.items.now)
