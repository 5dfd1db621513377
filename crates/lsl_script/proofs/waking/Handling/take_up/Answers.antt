use Rattle.std.proofs.Common.{false, refl, sym, subst, List}
use Rattle.lsl_code.specs.declared.frames.Frame.{Frame}
use Rattle.lsl_code.specs.Standing.{HasFrames}
use Rattle.lsl_machine.specs.State.{IsChainedAt, bodies_of}
use Rattle.lsl_script.specs.Awake.{IsLeft}
use Rattle.lsl_script.proofs.Origins.{parked_left, restored_runs}
use Rattle.lsl_script.proofs.Running.{begun_so}
use Rattle.lsl_script.proofs.TakesUp.{taken_up, taken_wakes}
use Rattle.lsl_script.proofs.Wakes.{emptied}
use Rattle.lsl_script.proofs.waking.Handling.take_up.Goals as goal

pub returns-clause-awake : goal.returns-clause-awake
returns-clause-awake c =
    let unit = c.args.unit.now in
    let rest = c.requires.fits.rest in
    record {
      states = c.requires.fits.states;
      idle = c.requires.idle.1;
      event = record { handled = c.handler_of-handler.ensures; exit = rest.1.exit };
      machine = c.in_ok-machine.ensures.of;
      silent = c.in_ok-machine.ensures.silent;
      running = restored_runs unit c.handler_of-handler.result c.in_ok-machine.machine c.in_ok-machine.ensures.stands
          (subst (λ z. IsChainedAt (bodies_of unit) c.handler_of-handler.result z c.in_ok-machine.machine.machine)
          c.in_ok-machine.ensures.stands c.in_ok-machine.ensures.chained)
          (subst IsLeft (sym c.in_ok-machine.ensures.kept)
          (parked_left c.args.kept.globals c.args.kept.limit c.args.sack c.requires.fits.least c.requires.fits.limit
          rest.2.1));
      begun = begun_so c.in_ok-machine.machine.standing false refl;
    }

pub returns-clause-took : goal.returns-clause-took
returns-clause-took c = record {
  took = refl;
  event = refl;
  fresh = refl;
  beside = emptied c.args.parts.now c.args.parts.now.queue c.requires.idle;
  begins = λ began. absurd cc;
  has = λ saved. c.in_ok-machine.ensures.kept;
  stands = λ saved. c.in_ok-machine.ensures.stands;
}

pub returns-clause-source : goal.returns-clause-source
returns-clause-source c codes s known is lawful =
    let unit = c.args.unit.now in
    let handler = c.handler_of-handler.result in
    let t = taken_up codes unit s c.args.parts.now c.args.kept c.args.event handler c.args.sack known is lawful
    c.handler_of-handler.ensures in
    let frames : HasFrames (bodies_of unit) handler t.machine.calls c.args.sack =
    subst (λ (x : List Frame). HasFrames (bodies_of unit) handler t.machine.calls x) (sym t.has_frames)
    t.saved.frames in
    taken_wakes codes unit s c.args.parts.now c.args.kept c.args.event handler c.args.sack _ known c.requires.idle is
    lawful t
    refl refl refl refl refl c.in_ok-machine.ensures.stands c.in_ok-machine.ensures.kept c.in_ok-machine.ensures.silent
    (c.in_ok-machine.ensures.same c.requires.weaves t.machine.calls frames)
