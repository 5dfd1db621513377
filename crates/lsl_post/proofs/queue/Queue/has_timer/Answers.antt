use Rattle.std.proofs.Common.{true, false, sym, ◌∙◌}
use Rattle.lsl_post.specs.Queue.{is_timer}
use Rattle.lsl_post.proofs.Places.{any-at}
use Rattle.lsl_post.proofs.queue.Queue.has_timer.Goals as goal

pub returns-then-is_timer : goal.returns-then-is_timer
returns-then-is_timer c =
    sym (c.loop-place.invariant.same ∙ any-at is_timer c.args.self.now c.loop-place.place c.event.result.now
    true c.event.ensures (sym c.is_timer.ensures ∙ c.if-is_timer.true))

pub loop-place-preserved : goal.loop-place-preserved
loop-place-preserved c =
    record {
      same = c.loop-place.invariant.same ∙ any-at is_timer c.args.self.now c.loop-place.place
          c.event.result.now false c.event.ensures (sym c.is_timer.ensures ∙ c.if-is_timer.false);
      end = c.loop-place.invariant.end;
    }
