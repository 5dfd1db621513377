-- A script as its text means it: it knows no instruction, frame or place in code. A handler in flight is the event with
-- which it began, and its progress: the ticks that it passed and the answers that it was given.
use Rattle.std.specs.Prelude.{ℕ, Bool, true, false, ◌&&◌, ◌||◌, nat_le, nat_lt, if◌then◌else◌, List, [], ◌∷◌, length, Option, None, is_some, refl}
use Rattle.lsl_value.specs.declared.names.EventId.{EventId}
use Rattle.lsl_value.specs.declared.names.EventId.TheVariants as event
use Rattle.lsl_running.specs.declared.ends.Fault.{Fault}
use Rattle.lsl_running.specs.declared.host.Reply.{Reply}
use Rattle.lsl_running.specs.declared.kept.Kept.{Kept}
use Rattle.lsl_post.specs.declared.entries.Entry.{Entry}
use Rattle.lsl_post.specs.declared.entries.Entry.TheVariants as entry
use Rattle.lsl_post.specs.declared.events.Event.{Event}
use Rattle.lsl_post.specs.declared.parts.Posted.{Posted}
use Rattle.lsl_post.specs.declared.parts.Posted.TheVariants.{Queued, Dropped, Unheard}
use Rattle.lsl_post.specs.Mailbox.{Mailbox, new_mailbox, posted, posting, timer_due, timer_read}
use Rattle.lsl_post.specs.Told.{Told, quiet}
use Rattle.lsl_script.specs.Rules.{Rules, initial_kept}

-- a handler that has begun: its event, what the script kept then, the ticks passed and the answers given
pub record Flight : Type 0 where
  pub event : Event
  pub kept : Kept
  pub ticks : ℕ
  pub answers : List Reply

pub data Doing : Type 0 where
  Resting : Doing
  Flying : Flight → Doing
  -- it stopped for good
  Stopped : Fault → Doing

-- a script: the number of its code, what it keeps, its state, the state for which it is leaving this one, its mailbox,
-- when it wakes, and what it does
pub record Script : Type 0 where
  pub code : ℕ
  pub kept : Kept
  pub state : ℕ
  pub leaving : Option ℕ
  pub mailbox : Mailbox
  pub wake : ℕ
  pub doing : Doing

abbrev pub is_alive : Doing → Bool
is_alive Resting = true
is_alive (Flying f) = true
is_alive (Stopped fault) = false

-- a state of the script's code has a handler for the event
abbrev pub handles : Rules → ℕ → ℕ → EventId → Bool
handles r code state id = is_some (r.handler code state id)

-- the script is alive, and its state has a handler for the event
abbrev pub takes : Rules → Script → Event → Bool
takes r s e = is_alive s.doing && handles r s.code s.state e.id

-- events without arguments
abbrev pub state_entry : Event
state_entry = record { id = event.StateEntry; args = []; toucher = None; fits = refl }

abbrev pub state_exit : Event
state_exit = record { id = event.StateExit; args = []; toucher = None; fits = refl }

abbrev pub timer_event : Event
timer_event = record { id = event.Timer; args = []; toucher = None; fits = refl }

-- the journal reports an event that is dropped
abbrev pub entries_of_posting : ℕ → Posted → List Entry
entries_of_posting number Queued = []
entries_of_posting number (Dropped e) = entry.Drop number e ∷ []
entries_of_posting number Unheard = []

-- an event is posted to the script of this number
abbrev pub post_to : Rules → ℕ → Event → Script → Told Script
post_to r number e s = record {
  value = record s { mailbox = posted (takes r s e) e s.mailbox };
  entries = entries_of_posting number (posting (takes r s e) e s.mailbox.queue);
}

-- the timer is read: if it is due its event is posted, and it is due again one period after the reading
abbrev pub ring_to : Rules → ℕ → ℕ → Script → Told Script
ring_to r number clock s =
    if timer_due clock s.mailbox
    then post_to r number timer_event (record s { mailbox = timer_read clock s.mailbox })
    else quiet s

-- the script can run: a handler in flight isn't asleep, or there is an event to take
abbrev pub can_go_on : ℕ → Script → Doing → Bool
can_go_on clock s Resting = is_some s.leaving || nat_lt 0 (length s.mailbox.queue)
can_go_on clock s (Flying f) = nat_le s.wake clock
can_go_on clock s (Stopped fault) = false

abbrev pub is_ready : ℕ → Script → Bool
is_ready clock s = can_go_on clock s s.doing

-- a script at its start, with this time of waking: it is in its first state, with its entry posted
abbrev pub fresh : Rules → ℕ → ℕ → Script
fresh r code wake = record {
  code = code;
  kept = initial_kept r code;
  state = 0;
  leaving = None;
  mailbox = posted (handles r code 0 event.StateEntry) state_entry new_mailbox;
  wake = wake;
  doing = Resting;
}

abbrev pub new_script : Rules → ℕ → Script
new_script r code = fresh r code 0

-- it sleeps until this reading of the clock
abbrev pub napped : ℕ → Script → Script
napped wake s = record s { wake = wake }
