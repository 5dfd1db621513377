use Rattle.std.proofs.Common.{◌≡◌, ◌<◌, ◌++◌, ◌∷◌, [], ap, arith, false, length, length-append}
use Rattle.lsl_image.specs.Script.{event_in}
use Rattle.lsl_image.proofs.EventLemmas.{event-put}
use Rattle.lsl_image.proofs.LeadingLemmas.{leads-full, leads-more, leads-start, leads-stops}
use Rattle.lsl_image.proofs.queue.read_events.Goals as goal

pub loop-i-init : goal.loop-i-init
loop-i-init c = record {
  many = ap length c.in_ok-queue.ensures;
  leads = leads-start c.args.bytes.now (λ before. event_in c.args.unit.now c.args.state false) c.args.count
      c.args.place _ c.in_ok-queue.ensures;
}

pub loop-i-preserved : goal.loop-i-preserved
loop-i-preserved c =
    let within : c.loop-i.i < c.args.count = c.loop-i-test.true in
    let pushed : c.put.new.self ≡ c.loop-i.queue ++ c.in_ok-event.event ∷ [] =
    event-put c.loop-i.queue c.put.new.self c.in_ok-event.event
    (omega (arith, c.loop-i.invariant.many, c.requires, within)) c.put.ensures.queue in
    record {
      many = omega (
        arith,
        ap length pushed,
        length-append c.loop-i.queue
            (c.in_ok-event.event ∷ []),
        c.loop-i.invariant.many,
      );
      leads = leads-more (λ before. event_in c.args.unit.now c.args.state false) c.loop-i.queue c.put.new.self
          c.args.count c.loop-i.i c.in_ok-event.event within pushed c.loop-i.invariant.leads
          c.in_ok-event.ensures;
    }

pub returns-in_err-event : goal.returns-in_err-event
returns-in_err-event c =
    leads-stops (λ before. event_in c.args.unit.now c.args.state false) c.loop-i.queue c.args.count c.loop-i.i _
    _ c.loop-i-test.true c.loop-i.invariant.leads c.in_err-event.ensures
    c.from_residual-in_err-event.ensures.1

pub returns : goal.returns
returns c = leads-full (λ before. event_in c.args.unit.now c.args.state false) c.loop-i.queue c.args.count
    c.loop-i.i c.loop-i-test.false c.loop-i.invariant.leads
