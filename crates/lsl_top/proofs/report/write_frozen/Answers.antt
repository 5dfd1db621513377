use Rattle.std.proofs.Common.{List, ℕ, ◌∙◌, subst}
use Rattle.std.proofs.lemmas.Result.{err_from_is_err_and}
use Rattle.lsl_lines.specs.Frozen.{frozen_line}
use Rattle.lsl_world.specs.Frozen.{frozen_image}
use Rattle.lsl_top.specs.Ports.{Writes, log}
use Rattle.lsl_top.proofs.Lasting.{ended-well, writes-nothing}
use Rattle.lsl_top.proofs.report.write_frozen.Goals as goal

pub returns-clause-of : goal.returns-clause-of
returns-clause-of g c = λ programs w is.
    subst (λ (z : List ℕ). Writes z (log (g.K.Sink.sunk c.args.sink.now) (g.K.Sink.faults c.args.sink.now))
    (log (g.K.Sink.sunk c.write_bytes.new.sink) (g.K.Sink.faults c.write_bytes.new.sink)) c.write_bytes.result)
    (c.as_slice.ensures.value ∙ (c.in_ok-line.ensures programs w is).0) c.write_bytes.ensures

pub returns-clause-last : goal.returns-clause-last
returns-clause-last g c = λ programs w is. ended-well c.write_bytes.result (c.in_ok-line.ensures programs w is).1

pub returns-in_err-line-clause-of : goal.returns-in_err-line-clause-of
returns-in_err-line-clause-of g c = λ programs w is.
    let p = err_from_is_err_and c.from_residual.result c.from_residual.ensures.1 in
    rw (p.1, p.2) (writes-nothing (frozen_line (frozen_image c.args.world.now.units w))
    (log (g.K.Sink.sunk c.args.sink.now) (g.K.Sink.faults c.args.sink.now)))
