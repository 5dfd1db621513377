use Rattle.std.proofs.Common.{drop}
use Rattle.lsl_code.proofs.Packing.{from_below}
use Rattle.lsl_code.proofs.sacks.turn.Goals as goal

pub overflow_sub-total : goal.overflow_sub-total
overflow_sub-total c =
    from_below c.loop-i.from (drop c.loop-i.i c.loop-i.marks.items) c.args.total c.loop-i.invariant.ends
