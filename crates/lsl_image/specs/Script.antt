-- The layout of a script's parts.
use Rattle.std.specs.Prelude.{◌≡◌, refl, ℕ, ℤ, zero, suc, ◌==◌, Bool, true, false, not, ◌&&◌, nat_le, nat_lt, if◌then◌else◌, List, [], length, map, Option, Some, None, slice_get}
use Rattle.std.specs.List.{list_any}
use Rattle.lsl_value.specs.declared.names.EventId.{EventId}
use Rattle.lsl_value.specs.declared.names.EventId.TheVariants.{StateExit}
use Rattle.lsl_table.specs.Events.{events, signature_of}
use Rattle.lsl_running.specs.Charging.{default_limit}
use Rattle.lsl_code.specs.declared.woven_units.Woven.{Woven as Code}
use Rattle.lsl_code.specs.Units.{same_event}
use Rattle.lsl_post.specs.declared.events.Event.{Event}
use Rattle.lsl_post.specs.declared.events.Toucher.{Toucher}
use Rattle.lsl_post.specs.declared.filters.Filter.{Filter}
use Rattle.lsl_post.specs.declared.listen.Listen.{Listen}
use Rattle.lsl_post.specs.declared.timer.Timer.{Timer}
use Rattle.lsl_post.specs.Filters.{filter, same_filter}
use Rattle.lsl_post.specs.Fitting.{has_handler, least_limit}
use Rattle.lsl_post.specs.Listens.{Standing, filter_of, has_number, is_number, listen_of, most_listens, standing}
use Rattle.lsl_post.specs.Queue.{most_events}
use Rattle.lsl_post.specs.Timing.{fits_timer}
use Rattle.lsl_image.specs.declared.faults.ImageFault.TheVariants.{Body}
use Rattle.lsl_image.specs.Layout.{Kinded, Layout, Ends, Refused, U8, U16, U32, U64, I32, TextForm, ◌>>=◌, field, field_that, grown, here, kinded_values, repeated, tested}

-- a flag is 0 or 1
unfoldable pub flag : Layout ℕ
flag = field_that U8 (λ n. nat_le n 1)

abbrev pub handles : Code → ℕ → EventId → Bool
handles unit state id = has_handler unit.states state id

-- a toucher's key, name and prim
unfoldable pub told_toucher : Layout (Option Toucher)
told_toucher = do
  key ← field TextForm
  name ← field TextForm
  link ← field I32
  Ends (Some (record { key = key; name = name; link = link }))

-- the toucher, if the flag announces one
abbrev pub flagged_toucher : ℕ → Layout (Option Toucher)
flagged_toucher zero = Ends None
flagged_toucher (suc n) = told_toucher

unfoldable pub toucher : Layout (Option Toucher)
toucher = flag >>= flagged_toucher

abbrev pub event_with : (id : EventId) → Kinded (signature_of id) → Option Toucher → Event
event_with id args who = record { id = id; args = args.values; toucher = who; fits = args.fits }

-- an event's arguments, a value for each parameter, and its toucher
unfoldable pub event_of : EventId → Layout Event
event_of id = do
  args ← kinded_values (signature_of id)
  who ← toucher
  Ends (event_with id args who)

-- the events are numbered from 1
abbrev pub event_numbered : ℕ → Option EventId
event_numbered zero = None
event_numbered (suc n) = slice_get events n

-- the state handles the event, and the event is an exit exactly where one is due
abbrev pub may_stand : Code → ℕ → Bool → EventId → Bool
may_stand unit state exits id =
    handles unit state id && (if exits then same_event id StateExit else not (same_event id StateExit))

abbrev pub event_that_may : Code → ℕ → Bool → ℕ → Option EventId → Layout Event
event_that_may unit state exits place None = Refused (Body place)
event_that_may unit state exits place (Some id) =
    if may_stand unit state exits id then event_of id else Refused (Body place)

-- an event of a state, an exit or another
unfoldable pub event_in : Code → ℕ → Bool → Layout Event
event_in unit state exits = do
  place ← here
  number ← field U8
  event_that_may unit state exits place (event_numbered number)

-- the number of a new state, which is another
abbrev pub other_state : Code → ℕ → Layout ℕ
other_state unit state = field_that U16 (λ to. nat_lt to (length unit.states) && not (to == state))

-- the state that the script is leaving for, if the flag announces one: the state has an exit
abbrev pub flagged_leaving : Code → ℕ → ℕ → ℕ → Layout (Option ℕ)
flagged_leaving unit state place zero = Ends None
flagged_leaving unit state place (suc n) =
    if handles unit state StateExit
    then (other_state unit state >>= λ to. Ends (Some to))
    else Refused (Body place)

unfoldable pub leaving : Code → ℕ → Layout (Option ℕ)
leaving unit state = do
  place ← here
  flagged ← flag
  flagged_leaving unit state place flagged

-- the events that wait: none is an exit, and the state has a handler for each
unfoldable pub queue : Code → ℕ → Layout (List Event)
queue unit state = do
  count ← field_that U8 (λ n. nat_le n most_events)
  repeated count (event_in unit state false)

-- what a listen after these asks for: its four values are its own
unfoldable pub filter_behind : List Listen → Layout Filter
filter_behind before = do
  channel ← field I32
  name ← field TextForm
  id ← field TextForm
  place ← here
  message ← field TextForm
  tested (not (list_any (same_filter (filter channel name id message)) (map filter_of before))) place
      (filter channel name id message)

abbrev pub listen_with : ℤ → ℕ → Filter → Listen
listen_with number flagged asked = record (listen_of number asked) { active = flagged == 1 }

-- a listen after these, with a number and values of its own
unfoldable pub listen_behind : List Listen → Layout Listen
listen_behind before = do
  number ← field_that I32 (λ n. is_number n && not (has_number before n))
  flagged ← flag
  asked ← filter_behind before
  Ends (listen_with number flagged asked)

unfoldable pub listens : Layout Standing
listens = do
  next ← field_that I32 is_number
  count ← field_that U8 (λ n. nat_le n most_listens)
  list ← grown count listen_behind []
  Ends (standing next list)

-- a timer that doesn't run is never due
abbrev pub due_timer : (place period due : ℕ) (fits : Bool) → fits_timer period due ≡ fits → Layout Timer
due_timer place period due true fits = Ends (record { period = period; due = due; fits = fits })
due_timer place period due false differs = Refused (Body place)

unfoldable pub timer : Layout Timer
timer = do
  period ← field_that U32 (λ n. nat_le n 2147483647)
  place ← here
  due ← field U64
  due_timer place period due (fits_timer period due) refl

-- version 1 has no limit, which means the greatest
unfoldable pub limit : ℕ → Layout ℕ
limit version =
    if version == 1
    then Ends default_limit
    else field_that U32 (λ n. nat_le least_limit n && nat_le n default_limit)
