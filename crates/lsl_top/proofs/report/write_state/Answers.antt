use Rattle.std.proofs.Common.{List, ℕ, ◌∙◌, ap, subst}
use Rattle.std.proofs.lemmas.Result.{err_from_is_err_and}
use Rattle.lsl_image.specs.declared.parts.WorldParts.{WorldParts}
use Rattle.lsl_view.specs.StateParts.{state_of_parts}
use Rattle.lsl_world.specs.Frozen.{parts_of_world}
use Rattle.lsl_world.proofs.Thawing.{parts-are}
use Rattle.lsl_top.specs.Ports.{Writes, log}
use Rattle.lsl_top.proofs.Lasting.{writes-nothing}
use Rattle.lsl_top.proofs.report.write_state.Goals as goal

pub returns-clause-of : goal.returns-clause-of
returns-clause-of g c = λ programs w is.
    let units = c.args.world.now.units in
    let names = c.args.names.now in
    subst (λ (z : List ℕ). Writes z (log (g.K.Sink.sunk c.args.sink.now) (g.K.Sink.faults c.args.sink.now))
    (log (g.K.Sink.sunk c.write_bytes.new.sink) (g.K.Sink.faults c.write_bytes.new.sink)) c.write_bytes.result)
    (c.as_slice.ensures.value ∙ c.in_ok-lines.ensures
    ∙ ap (λ (p : WorldParts). state_of_parts units names p) (parts-are programs c.args.world.now w is))
    c.write_bytes.ensures

pub returns-in_err-lines-clause-of : goal.returns-in_err-lines-clause-of
returns-in_err-lines-clause-of g c = λ programs w is.
    let p = err_from_is_err_and c.from_residual.result c.from_residual.ensures.1 in
    let units = c.args.world.now.units in
    rw (p.1, p.2) (writes-nothing (state_of_parts units c.args.names.now (parts_of_world units w))
    (log (g.K.Sink.sunk c.args.sink.now) (g.K.Sink.faults c.args.sink.now)))
