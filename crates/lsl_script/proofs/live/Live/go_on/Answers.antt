use Rattle.std.proofs.Common.{refl, sym, ◌∙◌, subst}
use Rattle.lsl_machine.specs.State.{asks_ahead, bodies_of}
use Rattle.lsl_script.specs.Awake.{StandsAfter}
use Rattle.lsl_script.specs.Lives.{Turns}
use Rattle.lsl_script.proofs.Running.{IsRun, Stays, awake_on, fewer_on, source_on, stands_on, turn_lacks}
use Rattle.lsl_script.proofs.live.Live.go_on.Goals as goal

ran : (c : goal.After-halted) → IsRun c.args.unit.now c.args.self.now.machine c.run-halt.result c.run-halt.new.self
ran c = record {
  runs = c.run-halt.ensures.runs;
  stands = c.run-halt.ensures.standing;
  cut = c.run-halt.ensures.stands;
  asked = c.run-halt.ensures.asked;
  few = c.run-halt.ensures.listens;
  of = c.run-halt.ensures.of;
  silent = c.run-halt.ensures.silent;
}

stays : (c : goal.After-halted) → Stays c.args.self.now (record c.args.self.now { machine = c.run-halt.new.self })
stays c = record { parts = refl; event = refl; handler = refl }

pub returns-clause-awake : goal.returns-clause-awake
returns-clause-awake c =
    awake_on c.args.unit.now c.args.self.now (record c.args.self.now { machine = c.run-halt.new.self })
    c.halted.new.self c.run-halt.result c.requires.awake c.requires.able (stays c) c.requires.fresh (ran c)
    c.halted.ensures.live

pub returns-clause-stands : goal.returns-clause-stands
returns-clause-stands c =
    subst (λ t. StandsAfter c.args.unit.now t c.halted.new.self) (sym c.halted.ensures.turn)
    (stands_on c.args.unit.now c.args.self.now (record c.args.self.now { machine = c.run-halt.new.self })
    c.halted.new.self c.run-halt.result c.requires.awake c.requires.able (ran c) c.halted.ensures.live)

pub returns-clause-source : goal.returns-clause-source
returns-clause-source c codes s f lives =
    subst (λ t. Turns codes c.args.unit.now s f t c.halted.new.self) (sym c.halted.ensures.turn)
    (source_on codes c.args.unit.now s f c.args.self.now (record c.args.self.now { machine = c.run-halt.new.self })
    c.halted.new.self c.run-halt.result c.requires.fresh c.requires.fresh (stays c) (ran c) lives c.halted.ensures.live)

pub returns-clause-ahead : goal.returns-clause-ahead
returns-clause-ahead c none call asks =
    let bodies = bodies_of c.args.unit.now in
    fewer_on bodies (asks_ahead bodies c.args.self.now.machine)
    (record c.args.self.now { machine = c.run-halt.new.self })
    c.halted.new.self c.run-halt.result call c.halted.ensures.live (sym c.halted.ensures.turn ∙ asks)
    (λ e. c.run-halt.ensures.ahead call e none)

pub returns-clause-memory : goal.returns-clause-memory
returns-clause-memory c free lacks =
    c.run-halt.ensures.memory free (turn_lacks c.run-halt.result (sym c.halted.ensures.turn ∙ lacks))
