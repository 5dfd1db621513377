use Rattle.std.proofs.Common.{refl, arith}
use Rattle.lsl_top.proofs.Cuts.{cut_part}
use Rattle.lsl_top.proofs.positions.cut.Goals as goal

pub returns-then-whole-len : goal.returns-then-whole-len
returns-then-whole-len c =
    cut_part c.args.whole c.args.segment c.args.steps.now.items _ c.truncate-then-whole-len.new.self.items
    c.index_mut.result.now c.shorten.new.step (let some = c.if-segment-eq0.false in grind arith)
    (omega (arith, c.if-whole-len.true, c.len.ensures))
    c.index_mut.ensures.value c.shorten.ensures refl c.truncate-then-whole-len.ensures.items
