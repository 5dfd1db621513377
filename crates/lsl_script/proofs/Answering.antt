-- An awake script is given its answer.
use Rattle.std.proofs.Common.{◌≡◌, ℕ, ◌+◌, List, [], ◌∷◌, ◌++◌, Bool, false, Option, sym, ap, ◌∙◌, subst, append_assoc, arith}
use Rattle.lsl_value.specs.declared.names.BuiltinId.{BuiltinId}
use Rattle.lsl_value.specs.declared.tagged.Value.{Value}
use Rattle.lsl_running.specs.declared.host.Reply.{Reply}
use Rattle.lsl_running.specs.declared.host.Reply.TheVariants as reply
use Rattle.lsl_code.specs.declared.woven_units.Woven.{Woven as Code}
use Rattle.lsl_code.specs.Bodies.{Body}
use Rattle.lsl_code.specs.Kinded.{Answers}
use Rattle.lsl_machine.specs.declared.standing.Standing.{Standing}
use Rattle.lsl_machine.specs.declared.standing.Standing.TheVariants as standing
use Rattle.lsl_machine.specs.Futures.{halt_from, ticks_passed}
use Rattle.lsl_machine.specs.State.{CanRun, IsOf, State, Wants, bodies_of}
use Rattle.lsl_script.specs.declared.live.Live.{Live}
use Rattle.lsl_script.specs.Awake.{AnswersAs, HasBegun, IsAwake, IsOnWayAs, Run}
use Rattle.lsl_script.specs.Handlers.{given}
use Rattle.lsl_script.specs.Lawful.{OneGiven}
use Rattle.lsl_script.specs.Lives.{IsFresh, Lives, Waits, flight_run, ticks_due}
use Rattle.lsl_script.specs.Scripts.{Flight, Script}
use Rattle.lsl_script.proofs.Running.{begun_runs_so}
use Rattle.lsl_script.proofs.Staying.{runs_answered}

-- the machine with its answer
pub record IsAnswered (old : State) (value : Option Value) (new : State) : Type 0 where
  pub runs : (bodies : List Body) (ticks : ℕ) (more : List Reply)
      → halt_from old.standing bodies old.machine ticks (reply.Value value ∷ more)
      ≡ halt_from new.standing bodies new.machine ticks more
  pub ready : CanRun new.standing
  pub passed : ticks_passed new.standing ≡ 0
  pub silent : new.machine.answers ≡ []
  pub of : (unit : Code) → IsOf unit old → IsOf unit new

wants_answers : (z : Standing) (value : Option Value) → Wants z value → (bodies : List Body) (comes : Run) (ticks : ℕ)
    (before : List Reply) (s : State) → IsOnWayAs z bodies comes ticks before s → AnswersAs bodies comes ticks before s
wants_answers (standing.Asking id) value w bodies comes ticks before s on = on
wants_answers standing.Ready value w bodies comes ticks before s on = absurd w
wants_answers standing.Full value w bodies comes ticks before s on = absurd w
wants_answers standing.AtTick value w bodies comes ticks before s on = absurd w
wants_answers (standing.Ended way) value w bodies comes ticks before s on = absurd w
wants_answers standing.Lost value w bodies comes ticks before s on = absurd w

pub answered_awake : (unit : Code) (live : Live) (value : Option Value) (new : State) → Wants live.machine.standing
    value
    → IsAnswered live.machine value new → IsAwake unit live → IsAwake unit (record live { machine = new })
answered_awake unit live value new wants a awake = record {
  states = awake.states;
  idle = awake.idle;
  event = awake.event;
  machine = a.of unit awake.machine;
  silent = a.silent;
  running = runs_answered unit live.handler live.machine new awake.running value
      (wants_answers live.machine.standing value wants (bodies_of unit) awake.running.run awake.running.ticks
      awake.running.given live.machine awake.running.on_way)
      (a.runs (bodies_of unit)) a.ready;
  begun = begun_runs_so new.standing live.fresh a.ready;
}

-- a script that waited isn't fresh
pub asked_begun : (z : Standing) (value : Option Value) (fresh : Bool) → Wants z value → HasBegun z fresh
    → fresh ≡ false
asked_begun (standing.Asking id) value fresh w h = h
asked_begun z value fresh w h = absurd w

pub answered_lives : (codes : List Code) (unit : Code) (s : Script) (f : Flight) (id : BuiltinId) (live : Live)
    (value : Option Value) (new : State) → Wants live.machine.standing value → IsAnswered live.machine value new
    → Waits codes unit s f id live → Lives codes unit s (given (reply.Value value) f) (record live { machine = new })
answered_lives codes unit s f id live value new wants a w =
    let fits : Answers id (reply.Value value) = subst (λ z. Wants z value) w.asking wants in
    let due : ticks_due live.fresh new.standing ≡ 0 = ap (λ b. ticks_due b new.standing) w.fresh ∙ a.passed in
    record {
      carries = record {
        known = w.carries.known;
        parts = w.carries.parts;
        timing = w.carries.timing;
        alive = w.carries.alive;
      };
      handles = record {
        held = w.handles.held;
        flies = w.handles.flies;
        same = w.handles.same;
        event = w.handles.event;
        handler = w.handles.handler;
        kept = w.handles.kept;
      };
      ticks = f.ticks + 1;
      due = omega arith;
      fresh = subst (λ b. IsFresh b new.standing (f.ticks + 1) (f.answers ++ reply.Value value ∷ [])) (sym w.fresh) tt;
      given = OneGiven f.answers (reply.Value value) id w.args w.given w.asked fits;
      run = record {
        same = λ more answers.
            ap (flight_run unit live.handler f (f.ticks + 1 + more)) (append_assoc f.answers (reply.Value value ∷
            []) answers)
            ∙ w.run.same more (reply.Value value) answers ∙ a.runs (bodies_of unit) more answers;
      };
    }
