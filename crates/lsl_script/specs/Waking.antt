-- The result of waking a script.
use Rattle.std.specs.Prelude.{◌≡◌, ℕ, true, false, List, [], drop, Option, Some, None, is_some, slice_get}
use Rattle.lsl_running.specs.declared.kept.Kept.{Kept}
use Rattle.lsl_code.specs.declared.woven_units.Woven.{Woven as Code}
use Rattle.lsl_code.specs.Wholes.{run_of}
use Rattle.lsl_machine.specs.declared.standing.Standing.TheVariants as standing
use Rattle.lsl_machine.specs.State.{bodies_of, kept_with}
use Rattle.lsl_post.specs.declared.events.Event.{Event}
use Rattle.lsl_post.specs.declared.parts.Rest.{Rest}
use Rattle.lsl_post.specs.declared.parts.Rest.TheVariants.{Idle, Saved, Dead}
use Rattle.lsl_post.specs.declared.parts.ScriptParts.{ScriptParts}
use Rattle.lsl_script.specs.declared.live.Live.{Live}
use Rattle.lsl_script.specs.declared.waking.Handling.{Handling}
use Rattle.lsl_script.specs.declared.waking.WakeFault.{WakeFault}
use Rattle.lsl_script.specs.declared.waking.WakeFault.TheVariants.{NotReady, NoMemory}
use Rattle.lsl_script.specs.Awake.{GoesOnAs, taken_by}
use Rattle.lsl_script.specs.Codes.{rules_of}
use Rattle.lsl_script.specs.Fitting.{are_ready}
use Rattle.lsl_script.specs.Handlers.{take_next}
use Rattle.lsl_script.specs.Lawful.{AsksAtMost}
use Rattle.lsl_script.specs.Lives.{Lives, Rests, entries_of_taking}
use Rattle.lsl_script.specs.Scripts.{Flight, Flying, Script, state_exit}

-- it is there, and this holds of it
abbrev pub IsThere : {X : Type 0} → Option X → (X → Type 0) → Type 0
IsThere None P = ⊥
IsThere (Some x) P = P x

-- a script that took up a saved handler is at its tick
abbrev pub StandsWoken : Live → Type 0
StandsWoken live = live.began ≡ false → live.machine.standing ≡ standing.AtTick

-- the script of these parts, with a handler that begins or is taken up
abbrev pub awake_with : ScriptParts → Handling → Live
awake_with parts h = record {
  parts = parts;
  event = h.event;
  handler = h.handler;
  began = h.began;
  fresh = h.began;
  outcome = None;
  machine = h.machine;
}

-- it can't run, and is returned unchanged, exactly if it isn't ready
abbrev pub IsRefused : ℕ → ScriptParts → WakeFault → Type 0
IsRefused clock parts (NotReady script) = (are_ready clock parts ≡ false) × (script ≡ parts)
IsRefused clock parts NoMemory = are_ready clock parts ≡ true

-- the next event: a script that leaves its state takes its exit before any that waits
abbrev pub event_in : Option ℕ → List Event → Option Event
event_in None queue = slice_get queue 0
event_in (Some state) queue = Some state_exit

abbrev pub queue_behind : Option ℕ → List Event → List Event
queue_behind None queue = drop 1 queue
queue_behind (Some state) queue = queue

-- a handler was saved, or an event can be taken
abbrev pub CanWakeFrom : ScriptParts → Rest → Type 0
CanWakeFrom parts Idle = is_some (event_in parts.leaving parts.queue) ≡ true
CanWakeFrom parts (Saved e frames) = Unit {0}
CanWakeFrom parts (Dead fault) = ⊥

-- the parts without what a script keeps, and with it
abbrev pub IsEmptied : ScriptParts → Type 0
IsEmptied parts = (parts.globals ≡ []) × (parts.rest ≡ Idle)

abbrev pub resting_parts : ScriptParts → Kept → Rest → ScriptParts
resting_parts parts kept rest = record parts { globals = kept.globals; limit = kept.limit; rest = rest }

abbrev pub CanWake : ScriptParts → Type 0
CanWake parts = CanWakeFrom parts parts.rest

-- the event that is taken of resting parts, the current event then, and what stays beside its handler
abbrev pub taken_at : ScriptParts → Rest → Option Event
taken_at parts Idle = event_in parts.leaving parts.queue
taken_at parts (Saved e frames) = None
taken_at parts (Dead fault) = None

abbrev pub in_hand_at : ScriptParts → Rest → Option Event
in_hand_at parts Idle = event_in parts.leaving parts.queue
in_hand_at parts (Saved e frames) = Some e
in_hand_at parts (Dead fault) = None

abbrev pub queue_at : ScriptParts → Rest → List Event
queue_at parts Idle = queue_behind parts.leaving parts.queue
queue_at parts (Saved e frames) = parts.queue
queue_at parts (Dead fault) = parts.queue

-- Parts wake this way, whatever they were read from. They take their next event, and its handler begins; or if a
-- handler was saved, its event is current again. The globals and the limit go to the machine; all else stays.
pub record TakesNext (unit : Code) (parts : ScriptParts) (live : Live) : Type 0 where
  pub took : taken_by live ≡ taken_at parts parts.rest
  pub event : in_hand_at parts parts.rest ≡ Some live.event
  pub fresh : live.fresh ≡ live.began
  pub beside : live.parts
      ≡ record parts { globals = []; limit = live.parts.limit; queue = queue_at parts parts.rest; rest = Idle }
  -- a handler that begins runs with what the script kept, and one that was saved has it
  pub begins : live.began ≡ true → GoesOnAs (bodies_of unit)
      (run_of (bodies_of unit) live.handler (kept_with parts.globals parts.limit) live.event.args) 0 [] live.machine
  pub has : live.began ≡ false → live.machine.machine.kept ≡ kept_with parts.globals parts.limit
  -- and is at its tick
  pub stands : live.began ≡ false → live.machine.standing ≡ standing.AtTick

-- the awake script represents the source script that has taken its next event, unless a handler was in flight; the
-- journal reports the event; and the handler makes at most this many calls before its next tick
pub record WakesAs (codes : List Code) (unit : Code) (s : Script) (live : Live) : Type 0 where
  pub flight : Flight
  pub flies : (number : ℕ) → (take_next number s s.doing).value.doing ≡ Flying flight
  pub lives : (number : ℕ) → Lives codes unit (take_next number s s.doing).value flight live
  pub rests : live.began ≡ false → Rests codes unit s flight live
  pub took : (number : ℕ) → (take_next number s s.doing).entries ≡ entries_of_taking number (taken_by live)
  pub asks : AsksAtMost (rules_of codes) s.code s.state flight ((rules_of codes).most s.code)
