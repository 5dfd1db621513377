use Rattle.std.proofs.Common.{◌≡◌, List, [], true, refl, sym, ◌∙◌, ap, subst}
use Rattle.lsl_value.specs.declared.tagged.Value.{Value}
use Rattle.lsl_code.specs.Kinds.{kinds_of}
use Rattle.lsl_code.specs.Wholes.{run_of}
use Rattle.lsl_machine.specs.State.{AreArguments, bodies_of, kept_with}
use Rattle.lsl_post.specs.declared.events.Event.{Event}
use Rattle.lsl_post.specs.declared.parts.ScriptParts.{ScriptParts}
use Rattle.lsl_script.specs.Awake.{GoesOnAs}
use Rattle.lsl_script.specs.Fitting.{FitsStates}
use Rattle.lsl_script.specs.Waking.{queue_behind}
use Rattle.lsl_script.proofs.Origins.{begun_goes, begun_runs}
use Rattle.lsl_script.proofs.Running.{begun_runs_so}
use Rattle.lsl_script.proofs.Units.{arguments_fit}
use Rattle.lsl_script.proofs.Wakes.{begun_wakes, behind_fits, emptied, taken_handled}
use Rattle.lsl_script.proofs.waking.Handling.begin.Goals as goal

pub handler_of-handler-requires : goal.handler_of-handler-requires
handler_of-handler-requires c =
    (taken_handled c.args.unit.now.states c.args.parts.now.state c.args.parts.now.leaving c.args.parts.now.queue
    c.next_event-event.result c.requires.fits.states c.next_event-event.ensures.event).0

pub begin-requires-clause-args : goal.begin-requires-clause-args
begin-requires-clause-args c =
    let a = arguments_fit c.args.unit.now c.args.parts.now.state c.handler_of-handler.result c.next_event-event.result
    c.handler_of-handler.ensures in
    let same : c.in_ok-copy.field-0 ≡ c.next_event-event.result.args = c.in_ok-copy.ensures in
    subst (λ o. AreArguments o c.in_ok-copy.field-0) (sym a.1) (ap kinds_of same ∙ a.2)

pub returns-clause-awake : goal.returns-clause-awake
returns-clause-awake c =
    let unit = c.args.unit.now in
    let parts = c.args.parts.now in
    let taken = taken_handled unit.states parts.state parts.leaving parts.queue c.next_event-event.result
    c.requires.fits.states c.next_event-event.ensures.event in
    record {
      states = subst (FitsStates unit.states parts.state parts.leaving) (sym c.next_event-event.ensures.queue)
          (behind_fits unit.states parts.state parts.leaving parts.queue c.requires.fits.states);
      idle = c.requires.idle.1;
      event = record { handled = c.handler_of-handler.ensures; exit = taken.1 };
      machine = c.in_ok-machine.ensures.of;
      silent = c.in_ok-machine.ensures.silent;
      running = begun_runs unit c.handler_of-handler.result (kept_with c.args.kept.globals c.args.kept.limit)
          c.in_ok-copy.field-0 c.in_ok-machine.machine c.requires.fits.least c.requires.fits.limit
          c.in_ok-machine.ensures.ready
          c.in_ok-machine.ensures.runs;
      begun = begun_runs_so c.in_ok-machine.machine.standing true c.in_ok-machine.ensures.ready;
    }

pub returns-clause-took : goal.returns-clause-took
returns-clause-took c =
    let unit = c.args.unit.now in
    let parts = c.args.parts.now in
    let first = c.next_event-event.ensures.event in
    let handler = c.handler_of-handler.result in
    let kept = kept_with c.args.kept.globals c.args.kept.limit in
    let args : c.in_ok-copy.field-0 ≡ c.next_event-event.result.args = c.in_ok-copy.ensures in
    record {
      took = sym first;
      event = first;
      fresh = refl;
      beside = ap {A = List Event} {B = ScriptParts} (λ q. record parts { queue = q }) c.next_event-event.ensures.queue
          ∙ emptied parts (queue_behind parts.leaving parts.queue) c.requires.idle;
      begins = λ began. subst (λ (a : List Value). GoesOnAs (bodies_of unit)
          (run_of (bodies_of unit) handler kept a) 0 []
          c.in_ok-machine.machine) args
          (begun_goes unit handler kept c.in_ok-copy.field-0 c.in_ok-machine.machine c.in_ok-machine.ensures.runs);
      has = λ saved. absurd cc;
      stands = λ saved. absurd cc;
    }

pub returns-clause-source : goal.returns-clause-source
returns-clause-source c codes s known is lawful =
    let unit = c.args.unit.now in
    let parts = c.args.parts.now in
    let handler = c.handler_of-handler.result in
    let kept = kept_with c.args.kept.globals c.args.kept.limit in
    let same : c.in_ok-copy.field-0 ≡ c.next_event-event.result.args = c.in_ok-copy.ensures in
    let goes = subst (λ (a : List Value). GoesOnAs (bodies_of unit) (run_of (bodies_of unit) handler kept a) 0 []
    c.in_ok-machine.machine)
    same (begun_goes unit handler kept c.in_ok-copy.field-0 c.in_ok-machine.machine c.in_ok-machine.ensures.runs) in
    begun_wakes codes unit s parts kept c.next_event-event.result handler _ c.requires.fits c.requires.idle known
    is lawful
    c.next_event-event.ensures.event c.handler_of-handler.ensures
    (ap {A = List Event} {B = ScriptParts} (λ q. record parts { queue = q }) c.next_event-event.ensures.queue)
    refl refl refl refl c.in_ok-machine.ensures.behind goes
