-- What a world's parts show whole. The parts have no names of scripts and globals: these are given.
use Rattle.std.specs.Prelude.{ℕ, suc, ◌+◌, ◌*◌, min, nat_lt, if◌then◌else◌, List, [], ◌∷◌, Option, Some, None, drop, get_or, length, map, option_map, slice_get}
use Rattle.lsl_value.specs.declared.tagged.Value.{Value}
use Rattle.lsl_running.specs.Charging.{most_charged}
use Rattle.lsl_running.specs.declared.ends.Fault.{Fault}
use Rattle.lsl_code.specs.declared.frames.Frame.{Frame}
use Rattle.lsl_code.specs.Frames.{parked_charge}
use Rattle.lsl_code.specs.declared.woven_functions.WovenCode.{WovenCode}
use Rattle.lsl_code.specs.declared.woven_units.Woven.{Woven as Code}
use Rattle.lsl_code.specs.Naming.{state_name}
use Rattle.lsl_post.specs.declared.events.Event.{Event}
use Rattle.lsl_post.specs.declared.parts.Rest.{Rest}
use Rattle.lsl_post.specs.declared.parts.Rest.TheVariants.{Idle, Saved, Dead}
use Rattle.lsl_post.specs.declared.parts.ScriptParts.{ScriptParts}
use Rattle.lsl_post.specs.declared.timer.Timer.{Timer}
use Rattle.lsl_post.specs.Timer.{timing_of}
use Rattle.lsl_post.specs.Timing.{Timing}
use Rattle.lsl_image.specs.declared.parts.Placed.{Placed}
use Rattle.lsl_image.specs.declared.parts.WorldParts.{WorldParts}
use Rattle.lsl_view.specs.Calls.{shown_frame, slot_count}
use Rattle.lsl_view.specs.Parts.{frames_in, functions_in, rest_word, states_in}
use Rattle.lsl_view.specs.State.{HeldCall, ShownGlobal, ShownObject, ShownState, ShownWorld, world_lines}
use Rattle.lsl_view.specs.declared.known.Names.{Names}

-- after a frame's slots its operands wait
abbrev pub held_frame : List WovenCode → Frame → HeldCall
held_frame functions frame = record {
  call = shown_frame functions frame;
  waits = drop (slot_count functions frame.function) frame.slots;
}

-- the charge of a script for itself, its globals and its calls, saturated at 64 bits
abbrev pub charge_in : ScriptParts → ℕ
charge_in s = min (parked_charge s.globals (frames_in s.rest)) most_charged

abbrev pub event_in : Rest → Option Event
event_in Idle = None
event_in (Saved event frames) = Some event
event_in (Dead fault) = None

abbrev pub fault_in : Rest → Option Fault
fault_in Idle = None
fault_in (Saved event frames) = None
fault_in (Dead fault) = Some fault

-- a timer that runs
abbrev pub running_timer : Timer → Option Timing
running_timer t = if nat_lt 0 t.period then Some (timing_of t) else None

-- the time until which a script sleeps, if that is in the future
abbrev pub sleep_until : (clock wake : ℕ) → Option ℕ
sleep_until clock wake = if nat_lt clock wake then Some wake else None

abbrev pub globals_shown : (names : List (List ℕ)) → List Value → List ShownGlobal
globals_shown [] values = []
globals_shown (name ∷ names) [] = []
globals_shown (name ∷ names) (value ∷ values) = record { name = name; value = value } ∷ globals_shown names values

-- a script of this unit, at this reading of the clock
abbrev pub state_in : Option Code → (clock : ℕ) → (name : List ℕ) → (globals : List (List ℕ)) → ScriptParts → ShownState
state_in unit clock name globals s = record {
  name = name;
  state = state_name (states_in unit) s.state;
  rest = rest_word s.rest;
  charge = charge_in s;
  limit = s.limit;
  leaving = option_map (state_name (states_in unit)) s.leaving;
  fault = fault_in s.rest;
  globals = globals_shown globals s.globals;
  calls = map (held_frame (functions_in unit)) (frames_in s.rest);
  took = event_in s.rest;
  queue = s.queue;
  listens = s.listens.list;
  timer = running_timer s.timer;
  sleeps = sleep_until clock s.wake;
}

-- the greatest number of scripts of a world that has an image: the most objects, each with the most scripts
abbrev pub most_scripts : ℕ
most_scripts = 255 * 65535

-- with the names of its unit's globals
abbrev pub script_state : List Code → Names → (clock : ℕ) → (name : List ℕ) → ScriptParts → ShownState
script_state library names clock name s =
    state_in (slice_get library s.unit) clock name (get_or names.globals s.unit []) s

-- scripts that follow this many others, each with the name at its place
abbrev pub states_shown : List Code → Names → (clock before : ℕ) → List ScriptParts → List ShownState
states_shown library names clock before [] = []
states_shown library names clock before (s ∷ more) =
    script_state library names clock (get_or names.scripts before []) s
    ∷ states_shown library names clock (suc before) more

-- an object has the name of its root
abbrev pub object_shown : List Code → Names → (clock before : ℕ) → Placed → ShownObject
object_shown library names clock before placed = record {
  name = get_or placed.object.names 0 [];
  region = placed.region;
  store = placed.object.store;
  scripts = states_shown library names clock before placed.object.scripts;
}

abbrev pub objects_shown : List Code → Names → (clock before : ℕ) → List Placed → List ShownObject
objects_shown library names clock before [] = []
objects_shown library names clock before (placed ∷ more) =
    object_shown library names clock before placed
    ∷ objects_shown library names clock (before + length placed.object.scripts) more

abbrev pub world_shown : List Code → Names → WorldParts → ShownWorld
world_shown library names parts = record {
  clock = parts.clock;
  objects = objects_shown library names parts.clock 0 parts.objects;
}

abbrev pub state_of_parts : List Code → Names → WorldParts → List ℕ
state_of_parts library names parts = world_lines (world_shown library names parts)
