use Rattle.std.proofs.Common.{◌≡◌, ◌∙◌, sym, ap, subst}
use Rattle.lsl_machine.specs.Futures.{StandsCut}
use Rattle.lsl_machine.specs.Laid.{machine_of, state_of}
use Rattle.lsl_machine.specs.State.{IsChargedAt, State, bodies_of}
use Rattle.lsl_machine.specs.declared.standing.Standing.TheVariants as standings
use Rattle.lsl_machine.proofs.Chained.{laid_charge}
use Rattle.lsl_machine.proofs.Passed.{stands_cut, states_on, states_to_tick, ticks_chained, ticks_of, ticks_run}
use Rattle.lsl_machine.proofs.Machine.pass_ticks.Goals as goal

pub returns-then-at_tick-clause-runs : goal.returns-then-at_tick-clause-runs
returns-then-at_tick-clause-runs c =
    let unit = c.args.unit.now in
    let n = c.passes_ticks-passed.result.0 in
    let made = c.passes_ticks-passed.ensures in
    let old = c.args.self.now in
    let new = state_of c.passes_ticks-passed.new.self c.self.inside.standing in
    let p = states_to_tick unit c.self.inside.running c.passes_ticks-passed.new.self c.self.inside.standing old
    c.self.view_is c.requires.stands c.requires.of n made.passed (made.ticks c.if-at_tick.true) in
    ticks_run unit n old new p

pub returns-then-at_tick-clause-passed : goal.returns-then-at_tick-clause-passed
returns-then-at_tick-clause-passed c =
    let unit = c.args.unit.now in
    let n = c.passes_ticks-passed.result.0 in
    let made = c.passes_ticks-passed.ensures in
    let old = c.args.self.now in
    let new = state_of c.passes_ticks-passed.new.self c.self.inside.standing in
    let p = states_to_tick unit c.self.inside.running c.passes_ticks-passed.new.self c.self.inside.standing old
    c.self.view_is c.requires.stands c.requires.of n made.passed (made.ticks c.if-at_tick.true) in
    p

pub returns-then-at_tick-clause-of : goal.returns-then-at_tick-clause-of
returns-then-at_tick-clause-of c =
    let unit = c.args.unit.now in
    let n = c.passes_ticks-passed.result.0 in
    let made = c.passes_ticks-passed.ensures in
    let old = c.args.self.now in
    let new = state_of c.passes_ticks-passed.new.self c.self.inside.standing in
    let p = states_to_tick unit c.self.inside.running c.passes_ticks-passed.new.self c.self.inside.standing old
    c.self.view_is c.requires.stands c.requires.of n made.passed (made.ticks c.if-at_tick.true) in
    ticks_of unit n old new p c.requires.of

pub returns-then-at_tick-clause-chained : goal.returns-then-at_tick-clause-chained
returns-then-at_tick-clause-chained c =
    let unit = c.args.unit.now in
    let n = c.passes_ticks-passed.result.0 in
    let made = c.passes_ticks-passed.ensures in
    let old = c.args.self.now in
    let new = state_of c.passes_ticks-passed.new.self c.self.inside.standing in
    let p = states_to_tick unit c.self.inside.running c.passes_ticks-passed.new.self c.self.inside.standing old
    c.self.view_is c.requires.stands c.requires.of n made.passed (made.ticks c.if-at_tick.true) in
    ticks_chained unit n old new p

pub returns-clause-runs : goal.returns-clause-runs
returns-clause-runs c =
    let unit = c.args.unit.now in
    let n = c.passes_ticks-passed.result.0 in
    let made = c.passes_ticks-passed.ensures in
    let old = c.args.self.now in
    let new = state_of c.passes_ticks-passed.new.self standings.Ready in
    let p = states_on unit c.self.inside.running c.passes_ticks-passed.new.self c.self.inside.standing old
    c.self.view_is c.requires.stands c.requires.of n made.passed made.some in
    ticks_run unit n old new p

pub returns-clause-passed : goal.returns-clause-passed
returns-clause-passed c =
    let unit = c.args.unit.now in
    let n = c.passes_ticks-passed.result.0 in
    let made = c.passes_ticks-passed.ensures in
    let old = c.args.self.now in
    let new = state_of c.passes_ticks-passed.new.self standings.Ready in
    let p = states_on unit c.self.inside.running c.passes_ticks-passed.new.self c.self.inside.standing old
    c.self.view_is c.requires.stands c.requires.of n made.passed made.some in
    p

pub returns-clause-of : goal.returns-clause-of
returns-clause-of c =
    let unit = c.args.unit.now in
    let n = c.passes_ticks-passed.result.0 in
    let made = c.passes_ticks-passed.ensures in
    let old = c.args.self.now in
    let new = state_of c.passes_ticks-passed.new.self standings.Ready in
    let p = states_on unit c.self.inside.running c.passes_ticks-passed.new.self c.self.inside.standing old
    c.self.view_is c.requires.stands c.requires.of n made.passed made.some in
    ticks_of unit n old new p c.requires.of

pub returns-clause-chained : goal.returns-clause-chained
returns-clause-chained c =
    let unit = c.args.unit.now in
    let n = c.passes_ticks-passed.result.0 in
    let made = c.passes_ticks-passed.ensures in
    let old = c.args.self.now in
    let new = state_of c.passes_ticks-passed.new.self standings.Ready in
    let p = states_on unit c.self.inside.running c.passes_ticks-passed.new.self c.self.inside.standing old
    c.self.view_is c.requires.stands c.requires.of n made.passed made.some in
    ticks_chained unit n old new p

pub returns-then-at_tick-clause-cut : goal.returns-then-at_tick-clause-cut
returns-then-at_tick-clause-cut c e =
    let unit = c.args.unit.now in
    let q = c.passes_ticks-passed.new.self in
    let stood : c.self.inside.standing ≡ standings.AtTick = ap (λ (s : State). s.standing) c.self.view_is
    ∙ c.requires.stands in
    subst (λ z. StandsCut (bodies_of unit) (state_of q z)) (sym stood)
    (stands_cut unit q (c.passes_ticks-passed.ensures.ticks c.if-at_tick.true))

pub returns-then-at_tick-clause-charged : goal.returns-then-at_tick-clause-charged
returns-then-at_tick-clause-charged c =
    let stood : c.self.inside.standing ≡ standings.AtTick = ap (λ (s : State). s.standing) c.self.view_is
    ∙ c.requires.stands in
    subst (λ z. IsChargedAt z (machine_of c.passes_ticks-passed.new.self)) (sym stood)
    (laid_charge c.passes_ticks-passed.new.self standings.AtTick c.passes_ticks-passed.ensures.held)

pub returns-clause-charged : goal.returns-clause-charged
returns-clause-charged c = laid_charge c.passes_ticks-passed.new.self standings.Ready c.passes_ticks-passed.ensures.held
