-- A script takes an event, and its handler continues, ends or stops.
use Rattle.std.specs.Prelude.{ℕ, ◌+◌, Bool, nat_eq, if◌then◌else◌, List, [], ◌∷◌, ◌++◌, length, Option, Some, None}
use Rattle.lsl_value.specs.declared.names.EventId.TheVariants as event
use Rattle.lsl_running.specs.declared.ends.Fault.{Fault}
use Rattle.lsl_running.specs.declared.ends.Outcome.{Outcome}
use Rattle.lsl_running.specs.declared.ends.Outcome.TheVariants as outcome
use Rattle.lsl_running.specs.declared.host.Reply.{Reply}
use Rattle.lsl_running.specs.declared.kept.Kept.{Kept}
use Rattle.lsl_running.specs.Charging.{script_charge, charges_of}
use Rattle.lsl_running.specs.Results.{Whole}
use Rattle.lsl_post.specs.declared.entries.Entry.TheVariants as entry
use Rattle.lsl_post.specs.declared.events.Event.{Event}
use Rattle.lsl_post.specs.Listens.{standing}
use Rattle.lsl_post.specs.Mailbox.{Mailbox, cleared, new_mailbox, next_event, posted, taken}
use Rattle.lsl_post.specs.Told.{Told, lead, quiet}
use Rattle.lsl_script.specs.declared.going.Going.{Going}
use Rattle.lsl_script.specs.declared.going.Going.TheVariants.{Stays, Leaves, Enters, Restarts}
use Rattle.lsl_script.specs.Rules.{Rules, initial_kept, whole_in}
use Rattle.lsl_script.specs.Scripts.{Flight, Doing, Resting, Flying, Stopped, Script, fresh, handles, state_entry, state_exit}

-- the event that is taken next: a script that leaves its state takes its exit before any that waits
abbrev pub event_due : Option ℕ → Mailbox → Option Event
event_due None box = next_event box
event_due (Some state) box = Some state_exit

abbrev pub mailbox_behind : Option ℕ → Mailbox → Mailbox
mailbox_behind None box = taken box
mailbox_behind (Some state) box = box

-- its handler begins
abbrev pub begun : Script → Event → Script
begun s e = record s {
  mailbox = mailbox_behind s.leaving s.mailbox;
  doing = Flying (record { event = e; kept = s.kept; ticks = 0; answers = [] });
}

abbrev pub with_event_due : ℕ → Script → Option Event → Told Script
with_event_due number s None = quiet s
with_event_due number s (Some e) = record { value = begun s e; entries = entry.Took number e ∷ [] }

-- the script of this number takes its next event, unless a handler is in flight
abbrev pub take_next : ℕ → Script → Doing → Told Script
take_next number s Resting = with_event_due number s (event_due s.leaving s.mailbox)
take_next number s (Flying f) = quiet s
take_next number s (Stopped fault) = quiet s

-- the result of a handler in flight for this many ticks and these answers
abbrev pub whole_of_flight : Rules → Script → Flight → ℕ → List Reply → Whole
whole_of_flight r s f ticks answers =
    whole_in r s.code (r.handler s.code s.state f.event.id) f.kept f.event.args ticks answers

-- a tick is passed, or an answer given
abbrev pub ticked : Flight → Flight
ticked f = record f { ticks = f.ticks + 1 }

abbrev pub given : Reply → Flight → Flight
given reply f = record f { answers = f.answers ++ reply ∷ [] }

abbrev pub with_flight : Flight → Script → Script
with_flight f s = record s { doing = Flying f }

-- from this state, with a handler of its exit or without. To go to the state in which it is is to return, and so is any
-- change of state in the handler of an exit
abbrev pub going_from : ℕ → Bool → Outcome → Going
going_from state exits outcome.Return = Stays
going_from state exits (outcome.StateTo n) = if nat_eq n state then Stays else (if exits then Leaves n else Enters n)
going_from state exits outcome.Reset = Restarts

abbrev pub going_on : ℕ → Outcome → Going
going_on n outcome.Return = Enters n
going_on n (outcome.StateTo m) = Enters n
going_on n outcome.Reset = Restarts

abbrev pub going_of : Option ℕ → ℕ → Bool → Outcome → Going
going_of None state exits ended = going_from state exits ended
going_of (Some n) state exits ended = going_on n ended

-- queue and listens go; the numbers of listens and the timer stay
abbrev pub emptied : Mailbox → Mailbox
emptied box = record (cleared box) { listens = standing box.listens.next [] }

-- in a new state, with its entry posted
abbrev pub entered : Rules → ℕ → Script → Script
entered r n s = record s {
  state = n;
  leaving = None;
  mailbox = posted (handles r s.code n event.StateEntry) state_entry (emptied s.mailbox);
  doing = Resting;
}

-- the script of this number goes there; the journal says how many events went
abbrev pub gone : Rules → ℕ → Script → Going → Told Script
gone r number s Stays = quiet (record s { doing = Resting })
gone r number s (Leaves n) = quiet (record s { leaving = Some n; doing = Resting })
gone r number s (Enters n) =
    record { value = entered r n s; entries = entry.Clear number (length s.mailbox.queue) ∷ [] }
gone r number s Restarts =
    record { value = fresh r s.code s.wake; entries = entry.Clear number (length s.mailbox.queue) ∷ [] }

-- what a script is charged between handlers
abbrev pub resting_charge : Kept → ℕ
resting_charge kept = script_charge + charges_of kept.globals

-- the handler in flight ended this way, and left this
abbrev pub ended : Rules → ℕ → Script → Kept → Outcome → Told Script
ended r number s kept outcome =
    lead (entry.Done number (resting_charge kept) ∷ [])
    (gone r number (record s { kept = kept })
    (going_of s.leaving s.state (handles r s.code s.state event.StateExit) outcome))

-- the script stops for good: its state and its time of waking stay
abbrev pub failed : Rules → ℕ → Script → Fault → Told Script
failed r number s fault = record {
  value = record s {
    kept = initial_kept r s.code;
    leaving = None;
    mailbox = new_mailbox;
    doing = Stopped fault;
  };
  entries = entry.Stopped number fault ∷ [];
}
