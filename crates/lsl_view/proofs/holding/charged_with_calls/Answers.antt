use Rattle.lsl_code.specs.Laid.{frame_laid}
use Rattle.lsl_running.specs.Charging.{most_charged}
use Rattle.lsl_view.proofs.Stepping.{charge-more}
use Rattle.lsl_view.proofs.holding.charged_with_calls.Goals as goal

pub loop-i-preserved : goal.loop-i-preserved
loop-i-preserved c = record {
  sum = charge-more c.args.sack.now c.loop-i.i (frame_laid c.call.result) c.args.charged c.loop-i.sum
      c.charged_with_values-sum.result c.saturating_add.result most_charged c.call.ensures c.loop-i.invariant.sum
      c.saturating_add.ensures c.charged_with_values-sum.ensures;
  end = c.loop-i.invariant.end;
}
