use Rattle.std.proofs.lemmas.Result.{err_from_is_err_and}
use Rattle.lsl_world.specs.Stages.{IsAt}
use Rattle.lsl_top.specs.Meant.{last_of}
use Rattle.lsl_top.specs.Ports.{log, wire}
use Rattle.lsl_top.proofs.Performing.{performs-done, performs-stopped}
use Rattle.lsl_top.proofs.Lasting.{holds-by, writes-by}
use Rattle.lsl_top.proofs.report.write_run.Goals as goal

pub returns-in_err-write_steps : goal.returns-in_err-write_steps
returns-in_err-write_steps g c =
    let p = err_from_is_err_and c.from_residual.result c.from_residual.ensures.1 in
    rw (p.1, p.2)
    (performs-stopped g.L.Link.gives c.args.world.units c.args.world.regions (last_of c.args.last) c.args.steps.now
    (λ programs. IsAt programs c.args.world) (λ programs. IsAt programs c.write_steps.new.world)
    (log (g.K.Sink.sunk c.args.sink.now) (g.K.Sink.faults c.args.sink.now)) _
    (wire (g.L.Link.trips c.args.link.now) (g.L.Link.faults c.args.link.now)) _ c.in_err-write_steps.field-0.0
    c.in_err-write_steps.ensures.goes)

pub returns : goal.returns
returns g c =
    let units = c.in_ok-write_steps.ensures.units in
    performs-done g.L.Link.gives c.args.world.units c.args.world.regions (last_of c.args.last) c.args.steps.now
    (λ programs. IsAt programs c.args.world) (λ programs. IsAt programs c.write_steps.new.world)
    c.in_ok-write_steps.field-0
    (log (g.K.Sink.sunk c.args.sink.now) (g.K.Sink.faults c.args.sink.now)) _ _
    (wire (g.L.Link.trips c.args.link.now) (g.L.Link.faults c.args.link.now)) _ c.write_last.result
    c.in_ok-write_steps.ensures.goes
    (λ programs stage is. writes-by (last_of c.args.last) c.write_steps.new.world.units c.args.world.units stage.world
    units _ _ c.write_last.result (c.write_last.ensures.of programs stage.world is.of))
    (λ programs stage is. holds-by (last_of c.args.last) c.write_steps.new.world.units c.args.world.units programs
    stage.world units c.write_last.result (c.write_last.ensures.last programs stage.world is.of))
    c.write_last.ensures.counted c.write_last.ensures.cause
