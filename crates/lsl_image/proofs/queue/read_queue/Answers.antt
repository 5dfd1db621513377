use Rattle.lsl_image.specs.Script.{queue}
use Rattle.lsl_image.proofs.LeadingLemmas.{leads-all, leads-exits, leads-reads, leads-then}
use Rattle.lsl_image.proofs.queue.read_queue.Goals as goal

pub returns-in_err-count : goal.returns-in_err-count
unfolding queue
returns-in_err-count c = leads-exits _ _ _ _
    (leads-all c.args.bytes.now (queue c.args.unit.now c.args.state) c.args.place) c.in_err-count.ensures.read
    c.from_residual.ensures.1

pub returns : goal.returns
unfolding queue
returns c = leads-reads _ (leads-then _ _
    (leads-all c.args.bytes.now (queue c.args.unit.now c.args.state) c.args.place) c.in_ok-count.ensures.read)
    c.read_events.ensures
