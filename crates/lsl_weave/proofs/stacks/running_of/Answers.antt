use Rattle.lsl_weave.proofs.StacksPlaced.{running_made}
use Rattle.lsl_weave.proofs.stacks.running_of.Goals as goal

pub returns : goal.returns
returns c b gives =
    running_made b c.args.stacks c.args.plain.now c.args.count gives _ _ _ _ c.into_placing-placing.ensures
    c.in_ok-place_empty.ensures.placed (c.in_ok-place_all.ensures b) c.finish.ensures
