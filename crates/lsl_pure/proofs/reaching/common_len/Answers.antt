use Rattle.std.proofs.Common.{drop, nat_eq, ap, arith}
use Rattle.std.specs.List.{common_prefix_len}
use Rattle.std.proofs.lemmas.List.{drop_all}
use Rattle.lsl_pure.proofs.ReachLemmas.{common-end}
use Rattle.lsl_pure.proofs.reaching.common_len.Goals as goal

pub returns-else-len-b-clause-value : goal.returns-else-len-b-clause-value
returns-else-len-b-clause-value c =
    let rest = drop c.bytes.len c.args.a.now in
    let none = ap (common_prefix_len nat_eq rest) (drop_all c.bytes.len c.args.b.now c.if-len-b.false) in
    omega (arith, none, common-end rest, c.bytes.invariant.common)
