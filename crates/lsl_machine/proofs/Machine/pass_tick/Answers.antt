use Rattle.std.proofs.Common.{◌≡◌, arith}
use Rattle.lsl_machine.specs.Passing.{PassesTick}
use Rattle.lsl_machine.proofs.Passed.{ticks_one}
use Rattle.lsl_machine.proofs.Machine.pass_tick.Goals as goal
use Rattle.lsl_machine.proofs.Machine.pass_tick.Goals.{After-pass_ticks-at_tick}

once : (c : After-pass_ticks-at_tick) → c.pass_ticks-at_tick.result.0 ≡ 1
once c = let made = c.pass_ticks-at_tick.ensures in let some = made.some in let most = made.most in omega arith

one : (c : After-pass_ticks-at_tick) → PassesTick c.args.unit.now c.args.self.now c.pass_ticks-at_tick.new.self
one c =
    ticks_one c.args.unit.now c.pass_ticks-at_tick.result.0 c.args.self.now c.pass_ticks-at_tick.new.self
    c.pass_ticks-at_tick.ensures.passed (once c)

pub returns-clause-runs : goal.returns-clause-runs
returns-clause-runs c = (one (goal.at.returns-clause-runs c).After-pass_ticks-at_tick).runs

pub returns-clause-memory : goal.returns-clause-memory
returns-clause-memory c stops free =
    (one (goal.at.returns-clause-memory c).After-pass_ticks-at_tick).memory (c.pass_ticks-at_tick.ensures.ready stops)
    free
