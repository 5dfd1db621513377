-- The events that wait: a list, the first to be taken first.
use Rattle.std.specs.Prelude.{ℕ, Bool, nat_lt, if◌then◌else◌, List, [], ◌∷◌, ◌++◌, length, Option, Some, None}
use Rattle.std.specs.List.{list_any}
use Rattle.lsl_value.specs.declared.names.EventId.TheVariants as event
use Rattle.lsl_code.specs.Units.{same_event}
use Rattle.lsl_post.specs.declared.events.Event.{Event}

-- how many events wait at most
abbrev pub most_events : ℕ
most_events = 64

abbrev pub has_room : List Event → Bool
has_room queue = nat_lt (length queue) most_events

-- the queue after an event is put: the event is last, if there is room
abbrev pub with_event : Event → List Event → List Event
with_event e queue = if has_room queue then queue ++ e ∷ [] else queue

-- the event that finds no room
abbrev pub put_back : Event → List Event → Option Event
put_back e queue = if has_room queue then None else Some e

abbrev pub is_timer : Event → Bool
is_timer e = same_event e.id event.Timer

-- a timer event waits
abbrev pub has_timer : List Event → Bool
has_timer queue = list_any is_timer queue
