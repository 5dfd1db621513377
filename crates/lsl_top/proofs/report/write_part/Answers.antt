use Rattle.std.proofs.lemmas.Result.{err_from_is_err_and}
use Rattle.lsl_world.specs.Stages.{IsAt}
use Rattle.lsl_top.specs.Ports.{log, wire}
use Rattle.lsl_top.proofs.Goings.{goes-memory}
use Rattle.lsl_top.proofs.Parts.{part-stopped, part-written}
use Rattle.lsl_top.proofs.report.write_part.Goals as goal

pub returns-in_err-left-clause-goes : goal.returns-in_err-left-clause-goes
returns-in_err-left-clause-goes g c =
    let p = err_from_is_err_and c.from_residual.result c.from_residual.ensures.1 in
    let (trips, went, does) = c.in_err-left.ensures.at in
    rw (p.1, p.2)
    (goes-memory g.L.Link.gives c.args.world.now.units c.args.world.now.regions c.args.step.now
    (λ programs. IsAt programs c.args.world.now) (λ programs. IsAt programs c.step_part.new.self)
    (log (g.K.Sink.sunk c.args.sink.now) (g.K.Sink.faults c.args.sink.now))
    (wire (g.L.Link.trips c.args.link.now) (g.L.Link.faults c.args.link.now))
    (wire (g.L.Link.trips c.step_part.new.link) (g.L.Link.faults c.step_part.new.link)) trips went
    c.in_err-left.ensures.counted c.in_err-left.field-0.0 _ _ does)

pub returns-in_err-write_entries-clause-goes : goal.returns-in_err-write_entries-clause-goes
returns-in_err-write_entries-clause-goes g c =
    let p = err_from_is_err_and c.from_residual-in_err-write_entries.result
    c.from_residual-in_err-write_entries.ensures.1 in
    let (trips, went, does) = c.in_ok-left.ensures.at in
    rw (p.1, p.2)
    (part-stopped g.L.Link.gives c.args.world.now.units c.args.world.now.regions c.args.step.now c.args.world.now
    c.step_part.new.self (log (g.K.Sink.sunk c.args.sink.now) (g.K.Sink.faults c.args.sink.now))
    (log (g.K.Sink.sunk c.write_entries.new.sink) (g.K.Sink.faults c.write_entries.new.sink))
    (wire (g.L.Link.trips c.args.link.now) (g.L.Link.faults c.args.link.now))
    (wire (g.L.Link.trips c.step_part.new.link) (g.L.Link.faults c.step_part.new.link)) trips went
    c.in_ok-left.ensures.counted _ _ c.as_slice.result.now c.truncate.ensures c.as_slice.ensures _
    c.in_err-write_entries.field-0.0 c.in_ok-left.left does c.in_err-write_entries.ensures)

pub returns-clause-goes : goal.returns-clause-goes
returns-clause-goes g c =
    let (trips, went, does) = c.in_ok-left.ensures.at in
    part-written g.L.Link.gives c.args.world.now.units c.args.world.now.regions c.args.step.now c.args.world.now
    c.step_part.new.self (log (g.K.Sink.sunk c.args.sink.now) (g.K.Sink.faults c.args.sink.now))
    (log (g.K.Sink.sunk c.write_entries.new.sink) (g.K.Sink.faults c.write_entries.new.sink))
    (wire (g.L.Link.trips c.args.link.now) (g.L.Link.faults c.args.link.now))
    (wire (g.L.Link.trips c.step_part.new.link) (g.L.Link.faults c.step_part.new.link)) trips went
    c.in_ok-left.ensures.counted _ _ c.as_slice.result.now c.truncate.ensures c.as_slice.ensures _
    c.in_ok-write_entries.field-0 c.in_ok-left.left does c.in_ok-write_entries.ensures
