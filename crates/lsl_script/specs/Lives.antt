-- What an awake script represents: a source script with a handler in flight.
use Rattle.std.specs.Prelude.{◌≡◌, ℕ, ◌+◌, Bool, true, false, List, [], ◌∷◌, ◌++◌, Option, Some, None}
use Rattle.lsl_value.specs.declared.names.BuiltinId.{BuiltinId}
use Rattle.lsl_value.specs.declared.tagged.Value.{Value}
use Rattle.lsl_running.specs.declared.ends.Fault.{Fault}
use Rattle.lsl_running.specs.declared.ends.Outcome.{Outcome}
use Rattle.lsl_running.specs.declared.host.Reply.{Reply}
use Rattle.lsl_running.specs.declared.host.Reply.TheVariants as reply
use Rattle.lsl_running.specs.Results as whole
use Rattle.lsl_code.specs.declared.woven_units.Woven.{Woven as Code}
use Rattle.lsl_code.specs.Runs.{CutAt}
use Rattle.lsl_code.specs.Units.{handler_of}
use Rattle.lsl_code.specs.Wholes.{run_of}
use Rattle.lsl_machine.specs.declared.standing.Standing.{Standing}
use Rattle.lsl_machine.specs.declared.standing.Standing.TheVariants as standing
use Rattle.lsl_machine.specs.Futures.{ticks_passed}
use Rattle.lsl_machine.specs.State.{bodies_of}
use Rattle.lsl_post.specs.declared.entries.Entry.{Entry}
use Rattle.lsl_post.specs.declared.entries.Entry.TheVariants as entry
use Rattle.lsl_post.specs.declared.events.Event.{Event}
use Rattle.lsl_post.specs.declared.parts.Rest.TheVariants.{Idle}
use Rattle.lsl_post.specs.declared.parts.ScriptParts.{ScriptParts}
use Rattle.lsl_script.specs.declared.live.Live.{Live}
use Rattle.lsl_script.specs.declared.live.Turn.{Turn}
use Rattle.lsl_script.specs.declared.live.Turn.TheVariants as turn
use Rattle.lsl_script.specs.Awake.{AnswersAs, GoesOnAs, Run}
use Rattle.lsl_script.specs.Codes.{HasUnit, rules_of}
use Rattle.lsl_script.specs.Handlers.{ticked, with_flight}
use Rattle.lsl_script.specs.Lawful.{AreGiven, IsKept, IsTiming, WasCut, flight_whole}
use Rattle.lsl_script.specs.Parts.{timer_of}
use Rattle.lsl_script.specs.Scripts.{Flight, Flying, Script, is_alive}

-- a script's parts while its machine has its globals
abbrev pub awake_parts : Script → ℕ → ScriptParts
awake_parts s limit = record {
  unit = s.code;
  globals = [];
  limit = limit;
  state = s.state;
  leaving = s.leaving;
  queue = s.mailbox.queue;
  listens = s.mailbox.listens;
  timer = timer_of s.mailbox.timing;
  wake = s.wake;
  rest = Idle;
}

-- it carries all that the script has beside its handler
pub record Carries (codes : List Code) (unit : Code) (s : Script) (live : Live) : Type 0 where
  pub known : HasUnit codes s.code unit
  pub parts : live.parts ≡ awake_parts s live.parts.limit
  pub timing : IsTiming s.mailbox.timing
  pub alive : is_alive s.doing ≡ true

-- and the current event, which began the script's flight, and its handler
pub record Handles (codes : List Code) (unit : Code) (s : Script) (f : Flight) (live : Live) : Type 0 where
  pub held : Flight
  pub flies : s.doing ≡ Flying held
  pub same : held.event ≡ f.event
  pub event : live.event ≡ f.event
  pub handler : handler_of unit.states s.state f.event.id ≡ Some live.handler
  pub kept : IsKept (rules_of codes) s.code f.kept

-- the run of the flight's handler from its start
abbrev pub flight_run : Code → ℕ → Flight → Run
flight_run unit handler f = run_of (bodies_of unit) handler f.kept f.event.args

-- how many ticks a segment passes from here: a handler just begun passes its first one too
abbrev pub ticks_due : Bool → Standing → ℕ
ticks_due true s = 1
ticks_due false s = ticks_passed s

-- a handler just begun has passed no tick, and has no answers
abbrev pub IsFresh : Bool → Standing → ℕ → List Reply → Type 0
IsFresh true s ticks answers = (ticks_passed s ≡ 0) × (ticks ≡ 0) × (answers ≡ [])
IsFresh false s ticks answers = Unit {0}

-- it can continue to the next tick of this flight
pub record Lives (codes : List Code) (unit : Code) (s : Script) (f : Flight) (live : Live) : Type 0 where
  pub carries : Carries codes unit s live
  pub handles : Handles codes unit s f live
  pub ticks : ℕ
  pub due : ticks + ticks_due live.fresh live.machine.standing ≡ f.ticks + 1
  pub fresh : IsFresh live.fresh live.machine.standing ticks f.answers
  pub given : AreGiven (flight_whole (rules_of codes) s.code s.state f ticks) f.answers
  pub run : GoesOnAs (bodies_of unit) (flight_run unit live.handler f) ticks f.answers live.machine

-- it waits for the answer to this call
pub record Waits (codes : List Code) (unit : Code) (s : Script) (f : Flight) (id : BuiltinId) (live : Live) : Type 0
  where
    pub carries : Carries codes unit s live
    pub handles : Handles codes unit s f live
    pub fresh : live.fresh ≡ false
    pub asking : live.machine.standing ≡ standing.Asking id
    pub args : List Value
    pub asked : flight_whole (rules_of codes) s.code s.state f (f.ticks + 1) f.answers ≡ whole.Asks id args
    pub given : AreGiven (flight_whole (rules_of codes) s.code s.state f (f.ticks + 1)) f.answers
    pub run : AnswersAs (bodies_of unit) (flight_run unit live.handler f) (f.ticks + 1) f.answers live.machine
    pub stop : (fault : Fault) → flight_whole (rules_of codes) s.code s.state f (f.ticks + 1)
        (f.answers ++ reply.Stop fault ∷ []) ≡ whole.Fails fault

-- it is at the tick of this flight, which the script has
pub record Rests (codes : List Code) (unit : Code) (s : Script) (f : Flight) (live : Live) : Type 0 where
  pub lives : Lives codes unit s f live
  pub flies : s.doing ≡ Flying f
  pub fresh : live.fresh ≡ false
  pub stands : live.machine.standing ≡ standing.AtTick
  pub cut : flight_run unit live.handler f f.ticks f.answers ≡ CutAt live.machine.machine

-- its handler ended so
pub record Ends (codes : List Code) (unit : Code) (s : Script) (f : Flight) (live : Live) : Type 0 where
  pub carries : Carries codes unit s live
  pub way : Outcome
  pub ended : live.machine.standing ≡ standing.Ended way
  pub comes : flight_whole (rules_of codes) s.code s.state f (f.ticks + 1) f.answers
      ≡ whole.Ends way live.machine.machine.kept

-- what a turn says of the flight, for one tick more
abbrev pub Turns : List Code → Code → Script → Flight → Turn → Live → Type 0
Turns codes unit s f (turn.Asks call) live =
    (flight_whole (rules_of codes) s.code s.state f (f.ticks + 1) f.answers ≡ whole.Asks call.id call.args)
    × Waits codes unit s f call.id live
Turns codes unit s f turn.AtTick live =
    WasCut (flight_whole (rules_of codes) s.code s.state f (f.ticks + 1) f.answers)
    × Rests codes unit (with_flight (ticked f) s) (ticked f) live
Turns codes unit s f turn.Ended live = Ends codes unit s f live
Turns codes unit s f (turn.Faulted fault) live =
    (flight_whole (rules_of codes) s.code s.state f (f.ticks + 1) f.answers ≡ whole.Fails fault)
    × Carries codes unit s live
Turns codes unit s f turn.NoMemory live = Unit {0}

-- the journal reports the event that was taken
abbrev pub entries_of_taking : ℕ → Option Event → List Entry
entries_of_taking number None = []
entries_of_taking number (Some e) = entry.Took number e ∷ []

-- and of a handler's end: the charge, and how many events went
abbrev pub entries_of_clearing : ℕ → Option ℕ → List Entry
entries_of_clearing number None = []
entries_of_clearing number (Some count) = entry.Clear number count ∷ []

abbrev pub entries_of_closing : ℕ → ℕ → Option ℕ → List Entry
entries_of_closing number charge cleared = entry.Done number charge ∷ entries_of_clearing number cleared
