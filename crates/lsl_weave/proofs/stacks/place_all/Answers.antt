use Rattle.std.proofs.Common.{refl, arith, length}
use Rattle.std.proofs.lemmas.Option.{slice_get_read}
use Rattle.lsl_weave.proofs.StacksPlaced.{placed_all, placed_more}
use Rattle.lsl_weave.proofs.stacks.place_all.Goals as goal

pub loop-i-init : goal.loop-i-init
loop-i-init c b gives = (refl, refl)

pub loop-i-preserved : goal.loop-i-preserved
loop-i-preserved c b gives =
    let plain = c.args.plain.now in
    let there = slice_get_read plain (length plain) c.loop-i.i c.index-plain-i.result refl c.loop-i-test.true
    c.index-plain-i.is in
    placed_more b plain c.args.placing.now c.loop-i.placing c.place_one.new.placing c.loop-i.i c.index-plain-i.result
    gives there (c.loop-i.invariant b gives) (c.in_ok-place_one.ensures b)

pub returns : goal.returns
returns c b gives =
    placed_all b c.args.plain.now c.args.placing.now c.loop-i.placing c.loop-i.i (omega arith) (c.loop-i.invariant b gives)
