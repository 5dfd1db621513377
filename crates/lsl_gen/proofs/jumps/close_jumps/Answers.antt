use Rattle.lsl_gen.proofs.OpenJumps.{close_step}
use Rattle.lsl_gen.proofs.jumps.close_jumps.Goals as goal

pub loop-jump-preserved : goal.loop-jump-preserved
loop-jump-preserved c =
    close_step c.args.labels.now c.args.inner.now c.loop-jump.jump-index _ _ _ _ _ _ _ c.loop-jump-test.true
    c.in_ok-close.ensures.code c.in_ok-close.ensures.jumps c.loop-jump.invariant
