-- Which units are well formed.
use Rattle.std.specs.Prelude.{ℕ, List, [], ◌∷◌, Bool, true, false, not, ◌&&◌, cond, Option, Some, None, nat_eq, nat_le, nat_lt, length, take, slice_get, is_none}
use Rattle.lsl_value.specs.declared.names.EventId.{EventId}
use Rattle.lsl_value.specs.declared.names.EventId.TheVariants as event
use Rattle.lsl_value.specs.declared.tagged.Value.{Value}
use Rattle.lsl_table.specs.Events.{signature_of}
use Rattle.lsl_code.specs.declared.functions.Handler.{Handler}
use Rattle.lsl_code.specs.declared.functions.StateCode.{StateCode}
use Rattle.lsl_code.specs.declared.signatures.Names.{Names}
use Rattle.lsl_code.specs.Bodies.{Body}
use Rattle.lsl_code.specs.Fits.{all_places, finds, fits_at, jumps_on, begins_with_tick, is_once, most_operands, plain_at}
use Rattle.lsl_code.specs.Kinds.{same_kinds, scope, names_in}

-- while the function runs, its instructions find what they need, its points occur once each and have a line each, and
-- it has the parameters and the greatest count of operands that it names
abbrev pub fits_running : Names → Body → Bool
fits_running names w =
    finds w 0 []
    && nat_eq (length w.stacks) (length w.code)
    && all_places (fits_at (scope names w.slots w.result) w) 0 w.code
    && all_places (is_once w.code) 0 w.points
    && nat_eq (length w.lines) (length w.points)
    && nat_eq (most_operands w.stacks) w.most
    && same_kinds (take (length w.params) w.slots) w.params

-- its places can be numbered
abbrev pub is_short : Body → Bool
is_short w = nat_lt (length w.code) 4294967296

-- a plain function, which begins with a tick
abbrev pub fits_function : Names → ℕ → Body → Bool
fits_function names f w = begins_with_tick w.code && fits_running names w && is_short w

-- code that only runs, and goes back only after ticks
abbrev pub is_plain_function : ℕ → Body → Bool
is_plain_function f w = all_places plain_at 0 w.code && all_places (jumps_on w.code) 0 w.code

-- a handler's function has the parameters of its event, and no result
abbrev pub handles : Handler → Option Body → Bool
handles h None = false
handles h (Some w) = same_kinds w.params (signature_of h.event) && is_none w.result

abbrev pub handler_fits : List Body → ℕ → Handler → Bool
handler_fits bodies n h = handles h (slice_get bodies h.function)

abbrev pub event_number : EventId → ℕ
event_number event.StateEntry = 1
event_number event.StateExit = 2
event_number event.TouchStart = 3
event_number event.Touch = 4
event_number event.TouchEnd = 5
event_number event.Listen = 6
event_number event.Timer = 7
event_number event.LinkMessage = 8
event_number event.Changed = 9
event_number event.OnRez = 10
event_number event.Dataserver = 11
event_number event.LinksetData = 12

abbrev pub same_event : EventId → EventId → Bool
same_event a b = nat_eq (event_number a) (event_number b)

abbrev pub has_event : EventId → List Handler → Bool
has_event e [] = false
has_event e (h ∷ hs) = cond (same_event e h.event) true (has_event e hs)

-- no event has two handlers
abbrev pub events_differ : List Handler → Bool
events_differ [] = true
events_differ (h ∷ hs) = not (has_event h.event hs) && events_differ hs

-- the function of an event's handler
abbrev pub handler_in : List Handler → EventId → Option ℕ
handler_in [] e = None
handler_in (h ∷ hs) e = cond (same_event h.event e) (Some h.function) (handler_in hs e)

abbrev pub handler_at : Option StateCode → EventId → Option ℕ
handler_at None e = None
handler_at (Some s) e = handler_in s.handlers e

-- and of one in the state of this number
abbrev pub handler_of : List StateCode → ℕ → EventId → Option ℕ
handler_of states n e = handler_at (slice_get states n) e

abbrev pub state_fits : List Body → ℕ → StateCode → Bool
state_fits bodies n s = all_places (handler_fits bodies) 0 s.handlers && events_differ s.handlers

-- there are 1 to 65,535 states, and their handlers are functions
abbrev pub fits_states : List Body → List StateCode → Bool
fits_states bodies states =
    nat_le 1 (length states) && nat_le (length states) 65535 && all_places (state_fits bodies) 0 states

-- a unit with these initial globals, states and functions
abbrev pub fits_unit : List Value → List StateCode → List Body → Bool
fits_unit globals states bodies =
    all_places (fits_function (names_in globals states bodies)) 0 bodies && all_places is_plain_function 0 bodies
    && fits_states bodies states
