use Rattle.std.proofs.Common.{subst, sym}
use Rattle.lsl_machine.specs.State.{CanRun}
use Rattle.lsl_script.proofs.Passing.{ticks_awake, ticks_part, ticks_segments}
use Rattle.lsl_script.proofs.live.Live.pass_ticks.Goals as goal

pub returns-then-stands-clause-passed : goal.returns-then-stands-clause-passed
returns-then-stands-clause-passed c =
    ticks_segments c.args.unit.now c.args.self.now c.pass_ticks-passed.result.0 c.args.self.now.machine
    c.pass_ticks-passed.new.self c.pass_ticks-passed.ensures.passed
    (c.pass_ticks-passed.ensures.ticks c.if-stands.true)

pub returns-then-stands-clause-awake : goal.returns-then-stands-clause-awake
returns-then-stands-clause-awake c =
    ticks_awake c.args.unit.now c.args.self.now c.pass_ticks-passed.result.0 c.args.self.now.machine
    c.pass_ticks-passed.new.self c.pass_ticks-passed.ensures.passed
    (subst CanRun (sym (c.pass_ticks-passed.ensures.ticks c.if-stands.true)) tt) c.requires.awake

pub returns-then-stands-clause-able : goal.returns-then-stands-clause-able
returns-then-stands-clause-able c = subst CanRun (sym (c.pass_ticks-passed.ensures.ticks c.if-stands.true)) tt

pub returns-clause-passed : goal.returns-clause-passed
returns-clause-passed c =
    ticks_part c.args.unit.now c.args.self.now c.pass_ticks-passed.result.0 c.args.self.now.machine
    c.pass_ticks-passed.new.self c.pass_ticks-passed.ensures.passed c.pass_ticks-passed.ensures.some
    (c.pass_ticks-passed.ensures.ready c.if-stands.false)

pub returns-clause-awake : goal.returns-clause-awake
returns-clause-awake c =
    ticks_awake c.args.unit.now c.args.self.now c.pass_ticks-passed.result.0 c.args.self.now.machine
    c.pass_ticks-passed.new.self c.pass_ticks-passed.ensures.passed
    (subst CanRun (sym (c.pass_ticks-passed.ensures.ready c.if-stands.false)) tt) c.requires.awake

pub returns-clause-able : goal.returns-clause-able
returns-clause-able c = subst CanRun (sym (c.pass_ticks-passed.ensures.ready c.if-stands.false)) tt
