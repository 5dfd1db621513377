use Rattle.lsl_image.specs.Bytes.{event_bytes}
use Rattle.lsl_image.specs.Fits.{FitsEvent}
use Rattle.lsl_image.proofs.WroteLemmas.{fits-at, wrote-at}
use Rattle.lsl_image.proofs.write_events.write_events.Goals as goal

pub loop-place-preserved : goal.loop-place-preserved
loop-place-preserved c = record {
  written = wrote-at event_bytes c.args.queue.now c.loop-place.place c.event.result.now c.args.out.now.items
      c.loop-place.out.items c.write_event.new.out.items c.event.ensures c.loop-place.invariant.written
      c.in_ok-write_event.ensures.ok;
  fits = fits-at FitsEvent c.args.queue.now c.loop-place.place c.event.result.now c.event.ensures
      c.loop-place.invariant.fits c.in_ok-write_event.ensures.fits;
  end = c.loop-place.invariant.end;
}
