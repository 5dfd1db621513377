use Rattle.lsl_image.proofs.WroteLemmas.{wrote-at}
use Rattle.lsl_view.specs.State.{event_line}
use Rattle.lsl_view.proofs.mailbox.push_queue.Goals as goal

pub loop-place-preserved : goal.loop-place-preserved
loop-place-preserved c = record {
  written = wrote-at event_line c.args.queue.now c.loop-place.place c.event.result.now c.args.out.now.items
      c.loop-place.out.items c.push_event.new.out.items c.event.ensures c.loop-place.invariant.written
      c.in_ok-push_event.ensures;
  end = c.loop-place.invariant.end;
}
