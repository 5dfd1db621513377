use Rattle.std.proofs.Common.{false, refl, sym, subst}
use Rattle.lsl_machine.specs.State.{State}
use Rattle.lsl_script.specs.declared.live.Live.{Live}
use Rattle.lsl_script.specs.Awake.{IsBeside, StandsAfter}
use Rattle.lsl_script.specs.Lives.{Turns}
use Rattle.lsl_script.proofs.Firsts.{first_lives, first_turns}
use Rattle.lsl_script.proofs.Running.{IsRun, Stays, awake_at, awake_on, halt_beside, stands_on}
use Rattle.lsl_script.proofs.live.Live.go_first.Goals as goal

stays : (old : Live) (machine : State) → Stays old (record old { fresh = false; machine = machine })
stays old machine = record { parts = refl; event = refl; handler = refl }

pub go_on-requires-clause-awake : goal.go_on-requires-clause-awake
go_on-requires-clause-awake c =
    awake_at c.args.unit.now c.args.self.now (record c.args.self.now { fresh = false; machine = c.run.new.self })
    c.run.result c.requires.awake c.requires.able (stays c.args.self.now c.run.new.self) refl (record {
      runs = c.run.ensures.runs;
      stands = c.run.ensures.standing;
      cut = c.run.ensures.stands;
      asked = c.run.ensures.asked;
      few = c.run.ensures.listens;
      of = c.run.ensures.of;
      silent = c.run.ensures.silent;
    })

pub returns-in-AtTick-clause-source : goal.returns-in-AtTick-clause-source
returns-in-AtTick-clause-source c codes s f lives =
    c.go_on.ensures.source codes s f
    (first_lives codes c.args.unit.now s f c.args.self.now
    (record c.args.self.now { fresh = false; machine = c.run.new.self }) c.run.result c.requires.fresh
    (stays c.args.self.now c.run.new.self) (record {
      runs = c.run.ensures.runs;
      stands = c.run.ensures.standing;
      cut = c.run.ensures.stands;
      asked = c.run.ensures.asked;
      few = c.run.ensures.listens;
      of = c.run.ensures.of;
      silent = c.run.ensures.silent;
    }) lives c.in-AtTick.is refl)

ran : (c : goal.After-halted) → IsRun c.args.unit.now c.args.self.now.machine c.run.result c.run.new.self
ran c = record {
  runs = c.run.ensures.runs;
  stands = c.run.ensures.standing;
  cut = c.run.ensures.stands;
  asked = c.run.ensures.asked;
  few = c.run.ensures.listens;
  of = c.run.ensures.of;
  silent = c.run.ensures.silent;
}

beside : (old new : Live) (machine : State) → IsBeside (record old { fresh = false; machine = machine }) new
    → IsBeside old new
beside old new machine b = record { parts = b.parts; event = b.event; handler = b.handler; began = b.began }

pub returns-in_default : goal.returns-in_default
returns-in_default c =
    let unit = c.args.unit.now in
    let old = c.args.self.now in
    let mid : Live = record old { fresh = false; machine = c.run.new.self } in
    let st = stays old c.run.new.self in
    record {
      awake = awake_on unit old mid c.halted.new.self c.run.result c.requires.awake c.requires.able st refl (ran c)
          c.halted.ensures.live;
      stands = subst (λ t. StandsAfter unit t c.halted.new.self) (sym c.halted.ensures.turn)
          (stands_on unit old mid c.halted.new.self c.run.result c.requires.awake c.requires.able (ran c)
          c.halted.ensures.live);
      beside = beside old c.halted.new.self c.run.new.self
          (subst (IsBeside mid) (sym c.halted.ensures.live) (halt_beside c.run.result mid));
      source = λ codes s f lives. subst (λ t. Turns codes unit s f t c.halted.new.self) (sym c.halted.ensures.turn)
          (first_turns codes unit s f old mid c.halted.new.self c.run.result c.requires.fresh st (ran c)
          c.in_default.not-AtTick lives c.halted.ensures.live);
    }
