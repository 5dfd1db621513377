use Rattle.lsl_post.proofs.DueOrder.{gone-again}
use Rattle.lsl_post.proofs.due.add.Goals as goal

pub returns-in-Err-clause-order_unchanged : goal.returns-in-Err-clause-order_unchanged
returns-in-Err-clause-order_unchanged c =
    gone-again (c.args.due, c.args.script) _ _ _ c.requires.rising c.remove.ensures.ordered c.requires.absent
    c.in_ok-insert.ensures.updates c.remove.ensures.updates
