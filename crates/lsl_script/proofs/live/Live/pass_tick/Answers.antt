use Rattle.std.proofs.Common.{Bool, true, false, ◌≡◌, refl, subst, sym}
use Rattle.lsl_machine.specs.Passing.{PassesTick}
use Rattle.lsl_machine.specs.State.{CanRun, State}
use Rattle.lsl_machine.specs.declared.standing.Standing.TheVariants as standing
use Rattle.lsl_script.proofs.Passing.{HasPassed, of_tick, one_tick, passed_awake, passed_lives, passed_turns}
use Rattle.lsl_script.proofs.live.Live.pass_tick.Goals as goal

can_run : (s : State) (b : Bool) → (b ≡ true → s.standing ≡ standing.AtTick)
    → (b ≡ false → s.standing ≡ standing.Ready) → CanRun s.standing
can_run s true at ready = subst CanRun (sym (at refl)) tt
can_run s false at ready = subst CanRun (sym (ready refl)) tt

able : (c : goal.After-pass_ticks-passed) → CanRun c.pass_ticks-passed.new.self.standing
able c =
    can_run c.pass_ticks-passed.new.self c.pass_ticks-passed.result.1 c.pass_ticks-passed.ensures.ticks
    c.pass_ticks-passed.ensures.ready

one : (c : goal.After-pass_ticks-passed)
    → PassesTick c.args.unit.now c.args.self.now.machine c.pass_ticks-passed.new.self
one c =
    one_tick c.args.unit.now c.pass_ticks-passed.result.0 c.args.self.now.machine c.pass_ticks-passed.new.self
    c.pass_ticks-passed.ensures.passed c.pass_ticks-passed.ensures.some c.pass_ticks-passed.ensures.most

passed : (c : goal.After-pass_ticks-passed)
    → HasPassed c.args.unit.now c.args.self.now.machine c.pass_ticks-passed.new.self
passed c = of_tick c.args.unit.now c.args.self.now.machine c.pass_ticks-passed.new.self (one c) (able c)

pub returns-clause-awake : goal.returns-clause-awake
returns-clause-awake c =
    passed_awake c.args.unit.now c.args.self.now c.pass_ticks-passed.new.self (passed c) c.requires.awake

pub returns-clause-able : goal.returns-clause-able
returns-clause-able c = able c

pub returns-clause-source : goal.returns-clause-source
returns-clause-source c e =
    passed_turns c.args.unit.now c.args.self.now c.pass_ticks-passed.new.self (passed c)
    (c.pass_ticks-passed.ensures.ticks e) (c.pass_ticks-passed.ensures.cut e)

pub returns-clause-goes : goal.returns-clause-goes
returns-clause-goes c e =
    passed_lives c.args.unit.now c.args.self.now c.pass_ticks-passed.new.self (passed c)
    (c.pass_ticks-passed.ensures.ready e)

pub returns-clause-memory : goal.returns-clause-memory
returns-clause-memory c e = (one c).memory (c.pass_ticks-passed.ensures.ready e)
