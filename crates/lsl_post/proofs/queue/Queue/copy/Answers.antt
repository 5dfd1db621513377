use Rattle.std.proofs.Common.{arith}
use Rattle.lsl_post.proofs.Queues.{copied-more}
use Rattle.lsl_post.proofs.queue.Queue.copy.Goals as goal

pub loop-place-preserved : goal.loop-place-preserved
loop-place-preserved c =
    record {
      same = copied-more c.args.self.now c.loop-place.copied c.put.new.self c.loop-place.place
          c.event.result.now c.in_ok-copy.field-0
          (omega (arith, c.loop-place-test.true, c.count-place-end.ensures.value))
          c.count-place-end.ensures.within
          c.loop-place.invariant.same c.put.ensures.queue c.in_ok-copy.ensures c.event.ensures;
      end = c.loop-place.invariant.end;
    }
