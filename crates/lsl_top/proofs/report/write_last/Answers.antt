use Rattle.std.proofs.Common.{sym, ap, subst}
use Rattle.std.specs.Prelude.{OnOk}
use Rattle.lsl_top.specs.Goes.{IsLast}
use Rattle.lsl_top.specs.Meant.{last_of}
use Rattle.lsl_top.specs.Pieces.{last_piece}
use Rattle.lsl_top.specs.Plays.{Last}
use Rattle.lsl_top.specs.Ports.{Writes, log}
use Rattle.lsl_top.proofs.Lasting.{ended-well}
use Rattle.lsl_top.proofs.report.write_last.Goals as goal

pub returns-in-Homes-clause-of : goal.returns-in-Homes-clause-of
returns-in-Homes-clause-of g c = λ programs w is.
    subst (λ (last : Last). Writes (last_piece last c.args.world.now.units w).lines
    (log (g.K.Sink.sunk c.args.sink.now) (g.K.Sink.faults c.args.sink.now))
    (log (g.K.Sink.sunk c.write_homes.new.sink) (g.K.Sink.faults c.write_homes.new.sink)) c.write_homes.result)
    (sym (ap last_of c.in-Homes.is)) (c.write_homes.ensures.of programs w is)

pub returns-in-Homes-clause-last : goal.returns-in-Homes-clause-last
returns-in-Homes-clause-last g c = λ programs w is.
    subst (λ (last : Last). OnOk c.write_homes.result (IsLast last c.args.world.now.units programs w))
    (sym (ap last_of c.in-Homes.is)) (ended-well c.write_homes.result tt)

pub returns-in-Frozen-clause-of : goal.returns-in-Frozen-clause-of
returns-in-Frozen-clause-of g c = λ programs w is.
    subst (λ (last : Last). Writes (last_piece last c.args.world.now.units w).lines
    (log (g.K.Sink.sunk c.args.sink.now) (g.K.Sink.faults c.args.sink.now))
    (log (g.K.Sink.sunk c.write_frozen.new.sink) (g.K.Sink.faults c.write_frozen.new.sink)) c.write_frozen.result)
    (sym (ap last_of c.in-Frozen.is)) (c.write_frozen.ensures.of programs w is)

pub returns-in-Frozen-clause-last : goal.returns-in-Frozen-clause-last
returns-in-Frozen-clause-last g c = λ programs w is.
    subst (λ (last : Last). OnOk c.write_frozen.result (IsLast last c.args.world.now.units programs w))
    (sym (ap last_of c.in-Frozen.is)) (c.write_frozen.ensures.last programs w is)

pub returns-in-Inspected-clause-of : goal.returns-in-Inspected-clause-of
returns-in-Inspected-clause-of g c = λ programs w is.
    subst (λ (last : Last). Writes (last_piece last c.args.world.now.units w).lines
    (log (g.K.Sink.sunk c.args.sink.now) (g.K.Sink.faults c.args.sink.now))
    (log (g.K.Sink.sunk c.write_state.new.sink) (g.K.Sink.faults c.write_state.new.sink)) c.write_state.result)
    (sym (ap last_of c.in-Inspected.is)) (c.write_state.ensures.of programs w is)

pub returns-in-Inspected-clause-last : goal.returns-in-Inspected-clause-last
returns-in-Inspected-clause-last g c = λ programs w is.
    subst (λ (last : Last). OnOk c.write_state.result (IsLast last c.args.world.now.units programs w))
    (sym (ap last_of c.in-Inspected.is)) (ended-well c.write_state.result tt)
