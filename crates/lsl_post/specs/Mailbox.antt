-- A script's mailbox: the events that wait for it, its listens and its timer, and what is done to them.
use Rattle.std.specs.Prelude.{ℕ, Bool, true, false, not, ◌&&◌, if◌then◌else◌, List, [], drop, Option, slice_get, is_some}
use Rattle.lsl_code.specs.declared.functions.StateCode.{StateCode}
use Rattle.lsl_code.specs.Units.{handler_of}
use Rattle.lsl_post.specs.declared.events.Event.{Event}
use Rattle.lsl_post.specs.declared.filters.Filter.{Filter}
use Rattle.lsl_post.specs.declared.parts.Posted.{Posted}
use Rattle.lsl_post.specs.declared.parts.Posted.TheVariants.{Queued, Dropped, Unheard}
use Rattle.lsl_post.specs.declared.parts.Rest.{Rest}
use Rattle.lsl_post.specs.declared.parts.Rest.TheVariants.{Idle, Saved, Dead}
use Rattle.lsl_post.specs.declared.parts.ScriptParts.{ScriptParts}
use Rattle.lsl_post.specs.Listens.{hears, no_listens, Standing}
use Rattle.lsl_post.specs.Queue.{has_room, has_timer, is_timer, with_event}
use Rattle.lsl_post.specs.Timing.{is_due, stopped, timing_after, Timing}

pub record Mailbox : Type 0 where
  pub queue : List Event
  pub listens : Standing
  pub timing : Timing

-- nothing waits, nothing is listened to, and the timer doesn't run
abbrev pub new_mailbox : Mailbox
new_mailbox = record { queue = []; listens = no_listens; timing = stopped }

-- the effect of an event: it is unheard if it isn't taken, and if it is a timer event while another waits; otherwise it
-- is dropped if the queue is full
abbrev pub posting : Bool → Event → List Event → Posted
posting taken e queue =
    if taken && not (is_timer e && has_timer queue)
    then (if has_room queue then Queued else Dropped e)
    else Unheard

-- the queue then: the event is last if it is queued
abbrev pub queue_after : Bool → Event → List Event → List Event
queue_after taken e queue = if taken && not (is_timer e && has_timer queue) then with_event e queue else queue

abbrev pub posted : Bool → Event → Mailbox → Mailbox
posted taken e box = record box { queue = queue_after taken e box.queue }

-- the event that waits longest, and the mailbox without it
abbrev pub next_event : Mailbox → Option Event
next_event box = slice_get box.queue 0

abbrev pub taken : Mailbox → Mailbox
taken box = record box { queue = drop 1 box.queue }

abbrev pub cleared : Mailbox → Mailbox
cleared box = record box { queue = [] }

-- spoken text is heard
abbrev pub mailbox_hears : Filter → Mailbox → Bool
mailbox_hears said box = hears said box.listens

abbrev pub timer_due : ℕ → Mailbox → Bool
timer_due clock box = is_due clock box.timing

abbrev pub timer_read : ℕ → Mailbox → Mailbox
timer_read clock box = record box { timing = timing_after clock box.timing }

-- a script that stopped for good takes no event
abbrev pub is_alive : Rest → Bool
is_alive Idle = true
is_alive (Saved event sack) = true
is_alive (Dead fault) = false

-- the script is alive, and its state has a handler for the event
abbrev pub takes : List StateCode → ScriptParts → Event → Bool
takes states parts e = is_alive parts.rest && is_some (handler_of states parts.state e.id)

-- the effect of an event that is posted to a script with a unit of these states, and its parts then
abbrev pub posted_to : List StateCode → Event → ScriptParts → Posted
posted_to states e parts = posting (takes states parts e) e parts.queue

abbrev pub with_posted : List StateCode → Event → ScriptParts → ScriptParts
with_posted states e parts = record parts { queue = queue_after (takes states parts e) e parts.queue }
