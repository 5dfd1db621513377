use Rattle.std.proofs.Common.{◌≡◌, ◌<◌, sym, ap, subst}
use Rattle.lsl_machine.specs.Laid.{machine_of, IsLaid}
use Rattle.lsl_machine.specs.State.{State, HasReserved, IsChained, IsChainedAt, IsIn, CanRun, asks_ahead, asks_ahead_at, bodies_of}
use Rattle.lsl_machine.specs.Memory.{TakesNone}
use Rattle.std.specs.Prelude.{vec_capacity}
use Rattle.lsl_machine.specs.Futures.{RunsOn, StandsCut, ticks_passed}
use Rattle.lsl_code.specs.Wholes.{told}
use Rattle.lsl_machine.proofs.Halting.{goes_on}
use Rattle.lsl_machine.specs.Laid.{state_of}
use Rattle.lsl_machine.proofs.Chained.{laid_charge}
use Rattle.lsl_machine.proofs.Machine.run.Goals as goal

pub run_to_halt-halt-requires : goal.run_to_halt-halt-requires
run_to_halt-halt-requires c = record {
  able = subst (λ (s : State). CanRun s.standing) (sym c.self.view_is) c.requires.able;
  laid = c.self.invariant;
  of = subst (λ (s : State). IsIn c.args.unit.now s.standing s.machine) (sym c.self.view_is) c.requires.of.0;
  reserved = subst (λ (s : State). HasReserved (bodies_of c.args.unit.now) s.standing s.room s.machine)
      (sym c.self.view_is) c.requires.of.1;
}

pub returns-clause-runs : goal.returns-clause-runs
returns-clause-runs c =
    let bodies = bodies_of c.args.unit.now in
    subst (λ (s : State). RunsOn bodies s c.run_to_halt-halt.result
    (state_of c.run_to_halt-halt.new.self c.standing_at-self-inside.result)) c.self.view_is
    (subst (λ z. RunsOn bodies (state_of c.self.inside.running c.self.inside.standing) c.run_to_halt-halt.result
    (state_of c.run_to_halt-halt.new.self z)) (sym c.standing_at-self-inside.ensures) c.run_to_halt-halt.ensures.runs)

pub returns-clause-whole : goal.returns-clause-whole
returns-clause-whole c =
    goes_on (bodies_of c.args.unit.now) c.args.self.now c.run_to_halt-halt.result
    (state_of c.run_to_halt-halt.new.self c.standing_at-self-inside.result) (returns-clause-runs c)

pub returns-clause-stands : goal.returns-clause-stands
returns-clause-stands c e = subst (λ z. StandsCut (bodies_of c.args.unit.now) (state_of c.run_to_halt-halt.new.self z))
    (sym c.standing_at-self-inside.ensures) (c.run_to_halt-halt.ensures.cut e)

pub returns-clause-cut : goal.returns-clause-cut
returns-clause-cut c e = ap (told (bodies_of c.args.unit.now)) (returns-clause-stands c e)

pub returns-clause-chained : goal.returns-clause-chained
returns-clause-chained c handler chain =
    let bodies = bodies_of c.args.unit.now in
    let old = subst (λ (s : State). IsChained bodies handler s) (sym c.self.view_is) chain in
    subst (λ z. IsChainedAt bodies handler z (machine_of c.run_to_halt-halt.new.self))
    (sym c.standing_at-self-inside.ensures)
    (c.run_to_halt-halt.ensures.chained handler old)

pub returns-clause-of : goal.returns-clause-of
returns-clause-of c =
    let new = c.run_to_halt-halt.new.self in
    let kept = subst (λ z. IsIn c.args.unit.now z (machine_of new)
    × HasReserved (bodies_of c.args.unit.now) z (vec_capacity new.stack) (machine_of new))
    (sym c.standing_at-self-inside.ensures) (c.run_to_halt-halt.ensures.of, c.run_to_halt-halt.ensures.reserved) in
    let chain = c.requires.of.2 in
    (kept.0, kept.1, (chain.0, returns-clause-chained c chain.0 chain.1))

pub returns-clause-charged : goal.returns-clause-charged
returns-clause-charged c =
    laid_charge c.run_to_halt-halt.new.self c.standing_at-self-inside.result
    (subst (IsLaid c.run_to_halt-halt.new.self) (sym c.standing_at-self-inside.ensures) c.run_to_halt-halt.ensures.laid)

pub returns-clause-memory : goal.returns-clause-memory
returns-clause-memory c free =
    c.run_to_halt-halt.ensures.memory (subst (TakesNone (bodies_of c.args.unit.now)) (sym c.self.view_is) free)

pub returns-clause-ahead : goal.returns-clause-ahead
returns-clause-ahead c call asks none =
    let bodies = bodies_of c.args.unit.now in
    let new = c.run_to_halt-halt.new.self in
    let before : ticks_passed c.self.inside.standing ≡ 0 =
    subst (λ (s : State). ticks_passed s.standing ≡ 0) (sym c.self.view_is) none in
    subst (λ (s : State). asks_ahead_at bodies c.standing_at-self-inside.result (machine_of new) < asks_ahead bodies s)
    c.self.view_is
    (subst (λ z. asks_ahead_at bodies z (machine_of new) < asks_ahead bodies
    (state_of c.self.inside.running c.self.inside.standing)) (sym c.standing_at-self-inside.ensures)
    (c.run_to_halt-halt.ensures.ahead call asks before))
