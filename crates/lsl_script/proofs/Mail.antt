-- What is done to a script's listens and timer in place.
use Rattle.std.proofs.Common.{◌≡◌, ℕ, List, [], Bool, true, ◌&&◌, Option, sym, ap, ◌∙◌}
use Rattle.std.specs.Prelude.{is_some}
use Rattle.lsl_value.specs.declared.names.BuiltinId.{BuiltinId}
use Rattle.lsl_code.specs.declared.woven_units.Woven.{Woven as Code}
use Rattle.lsl_post.specs.declared.events.Event.{Event}
use Rattle.lsl_post.specs.declared.parts.Rest.TheVariants.{Idle}
use Rattle.lsl_post.specs.declared.parts.ScriptParts.{ScriptParts}
use Rattle.lsl_post.specs.declared.timer.Timer.{Timer}
use Rattle.lsl_post.specs.Mailbox.{posted_to, posting, queue_after, takes as parts_take, with_posted}
use Rattle.lsl_post.specs.Timer.{timing_of}
use Rattle.lsl_script.specs.declared.live.Live.{Live}
use Rattle.lsl_script.specs.Codes.{rules_of}
use Rattle.lsl_script.specs.Lending.{parts_with_timer}
use Rattle.lsl_script.specs.Lives.{Carries, Waits}
use Rattle.lsl_script.specs.MailLaws.{ListensAreIts, RestingTimerIsIts, StaysAwake, StaysFitting, TimerIsIts}
use Rattle.lsl_script.specs.Mailing.{with_wake}
use Rattle.lsl_script.specs.Parts.{parts_of}
use Rattle.lsl_script.specs.Scripts.{Flight, Script, entries_of_posting, napped, post_to, takes}
use Rattle.lsl_script.proofs.Posting.{handler_is}
use Rattle.lsl_script.proofs.Timers.{timer_is, timing_fits, timing_is}

pub listens_are_its : ListensAreIts
listens_are_its codes unit s f id live w =
    let c = w.carries in
    record {
      same = ap (λ (p : ScriptParts). p.listens) c.parts;
      changed = λ listens. record {
        carries = record {
          known = c.known;
          parts = ap {A = ScriptParts} {B = ScriptParts} (λ p. record p { listens = listens }) c.parts;
          timing = c.timing;
          alive = c.alive;
        };
        handles = record {
          held = w.handles.held;
          flies = w.handles.flies;
          same = w.handles.same;
          event = w.handles.event;
          handler = w.handles.handler;
          kept = w.handles.kept;
        };
        fresh = w.fresh;
        asking = w.asking;
        args = w.args;
        asked = w.asked;
        given = w.given;
        run = w.run;
        stop = w.stop;
      };
    }

pub timer_is_its : TimerIsIts
timer_is_its codes unit s f id live w =
    let c = w.carries in
    record {
      same = ap (λ (p : ScriptParts). timing_of p.timer) c.parts ∙ timing_is s.mailbox.timing c.timing;
      changed = λ timer. record {
        carries = record {
          known = c.known;
          parts = ap {A = ScriptParts} {B = ScriptParts} (λ p. record p { timer = timer }) c.parts
              ∙ ap {A = Timer} {B = ScriptParts} (λ t. record live.parts {
                unit = s.code;
                globals = [];
                state = s.state;
                leaving = s.leaving;
                queue = s.mailbox.queue;
                listens = s.mailbox.listens;
                timer = t;
                wake = s.wake;
                rest = Idle;
              }) (timer_is timer);
          timing = timing_fits timer;
          alive = c.alive;
        };
        handles = record {
          held = w.handles.held;
          flies = w.handles.flies;
          same = w.handles.same;
          event = w.handles.event;
          handler = w.handles.handler;
          kept = w.handles.kept;
        };
        fresh = w.fresh;
        asking = w.asking;
        args = w.args;
        asked = w.asked;
        given = w.given;
        run = w.run;
        stop = w.stop;
      };
    }

pub stays_awake : StaysAwake
stays_awake unit live a = (
  λ listens. record {
    states = a.states;
    idle = a.idle;
    event = a.event;
    machine = a.machine;
    silent = a.silent;
    running = a.running;
    begun = a.begun;
  },
  λ timer. record {
    states = a.states;
    idle = a.idle;
    event = a.event;
    machine = a.machine;
    silent = a.silent;
    running = a.running;
    begun = a.begun;
  },
)

pub resting_timer_is_its : RestingTimerIsIts
resting_timer_is_its codes s parts is lawful =
    record {
      same = ap (λ (p : ScriptParts). timing_of p.timer) is ∙ timing_is s.mailbox.timing lawful.timing;
      changed = λ timer. ap (parts_with_timer timer) is
          ∙ ap {A = Timer} {B = ScriptParts} (λ t. parts_with_timer t (parts_of codes s)) (timer_is timer);
      lawful = λ timer. record { timing = timing_fits timer; doing = lawful.doing };
    }

pub stays_fitting : StaysFitting
stays_fitting unit parts timer f =
    record { states = f.states; globals = f.globals; least = f.least; limit = f.limit; rest = f.rest }

pub napped_waits : (codes : List Code) (unit : Code) (s : Script) (f : Flight) (id : BuiltinId) (live : Live) (wake : ℕ)
    → Waits codes unit s f id live → Waits codes unit (napped wake s) f id (with_wake wake live)
napped_waits codes unit s f id live wake w =
    let c = w.carries in
    record {
      carries = record {
        known = c.known;
        parts = ap {A = ScriptParts} {B = ScriptParts} (λ p. record p { wake = wake }) c.parts;
        timing = c.timing;
        alive = c.alive;
      };
      handles = record {
        held = w.handles.held;
        flies = w.handles.flies;
        same = w.handles.same;
        event = w.handles.event;
        handler = w.handles.handler;
        kept = w.handles.kept;
      };
      fresh = w.fresh;
      asking = w.asking;
      args = w.args;
      asked = w.asked;
      given = w.given;
      run = w.run;
      stop = w.stop;
    }

awake_takes : (codes : List Code) (unit : Code) (s : Script) (live : Live) (e : Event) → Carries codes unit s live
    → parts_take unit.states live.parts e ≡ takes (rules_of codes) s e
awake_takes codes unit s live e c =
    ap (λ (p : ScriptParts). parts_take unit.states p e) c.parts
    ∙ ap (λ (o : Option ℕ). true && is_some o) (sym (handler_is codes s.code s.state e.id unit c.known))
    ∙ ap (λ b. b && is_some ((rules_of codes).handler s.code s.state e.id)) (sym c.alive)

pub posted_waits : (codes : List Code) (unit : Code) (s : Script) (f : Flight) (id : BuiltinId) (live : Live)
    (e : Event)
    (number : ℕ) → Waits codes unit s f id live
    → Waits codes unit (post_to (rules_of codes) number e s).value f id
    (record live { parts = with_posted unit.states e live.parts })
posted_waits codes unit s f id live e number w =
    let c = w.carries in
    let heard = awake_takes codes unit s live e c in
    record {
      carries = record {
        known = c.known;
        parts = ap {A = Bool} {B = ScriptParts} (λ b. record live.parts {
          queue = queue_after b e live.parts.queue;
        }) heard
            ∙ ap {A = ScriptParts} {B = ScriptParts}
            (λ p. record p { queue = queue_after (takes (rules_of codes) s e) e p.queue }) c.parts;
        timing = c.timing;
        alive = c.alive;
      };
      handles = record {
        held = w.handles.held;
        flies = w.handles.flies;
        same = w.handles.same;
        event = w.handles.event;
        handler = w.handles.handler;
        kept = w.handles.kept;
      };
      fresh = w.fresh;
      asking = w.asking;
      args = w.args;
      asked = w.asked;
      given = w.given;
      run = w.run;
      stop = w.stop;
    }

pub posted_entries : (codes : List Code) (unit : Code) (s : Script) (f : Flight) (id : BuiltinId) (live : Live)
    (e : Event) (number : ℕ) → Waits codes unit s f id live
    → (post_to (rules_of codes) number e s).entries ≡ entries_of_posting number (posted_to unit.states e live.parts)
posted_entries codes unit s f id live e number w =
    ap (λ (q : List Event). entries_of_posting number (posting (takes (rules_of codes) s e) e q))
    (sym (ap (λ (p : ScriptParts). p.queue) w.carries.parts))
    ∙ ap (λ b. entries_of_posting number (posting b e live.parts.queue)) (sym (awake_takes codes unit s live e
    w.carries))
