use Rattle.lsl_top.specs.Ends.{outside}
use Rattle.lsl_trace.specs.Ended.{taken}
use Rattle.lsl_trace.proofs.Endings.{comes-of-so, over-any-sink}
use Rattle.lsl_trace.proofs.trace.Goals as goal

pub returns-in-Ok-clause-ended : goal.returns-in-Ok-clause-ended
returns-in-Ok-clause-ended g c =
    let held = g.S.Shelf.held c.args.shelf.now in
    let reads = g.S.Shelf.faults c.args.shelf.now in
    let sunk = g.K.Sink.sunk c.args.sink.now in
    let writes = g.K.Sink.faults c.args.sink.now in
    let trips = g.L.Link.trips c.args.link.now in
    let links = g.L.Link.faults c.args.link.now in
    let run = c.in-Ok.run' in
    comes-of-so g.L.Link.gives c.args.request.now (outside held reads sunk writes trips links) (taken sunk writes)
    (taken (g.K.Sink.sunk c.trace_run.new.sink) (g.K.Sink.faults c.trace_run.new.sink)) run.status run.journal.taken
    c.trace_run.result
    (over-any-sink g.L.Link.gives c.args.request.now.world.now held reads sunk writes trips links run.status
    run.journal.taken c.in-Ok.ensures.replays)
    c.trace_run.ensures.ended
