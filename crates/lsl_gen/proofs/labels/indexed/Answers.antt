use Rattle.std.proofs.Common.{refl}
use Rattle.lsl_gen.proofs.LabelTables.{one_more}
use Rattle.lsl_gen.proofs.labels.indexed.Goals as goal

pub loop-x-preserved : goal.loop-x-preserved
loop-x-preserved c =
    one_more c.args.first _ _ _ c.args.labels.now c.loop-x.x-index _ c.loop-x-test.true c.requires refl
    c.in_ok-enter.ensures c.loop-x.invariant
