use Rattle.std.proofs.Common.{◌≡◌, arith, Some}
use Rattle.lsl_code.proofs.OnStack.{sack_count}
use Rattle.lsl_code.proofs.sacks.Sack.len.Goals as goal

pub returns-in-Some : goal.returns-in-Some
returns-in-Some c =
    let some : c.self.inside.top ≡ Some c.in-Some._top = cc in
    let count = sack_count c.self.inside.top c.in-Some._top c.self.inside.outer.items c.self.inside.values.items
    c.args.self.now c.self.view_is c.self.invariant some in
    omega arith
