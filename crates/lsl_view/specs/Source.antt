-- The lines of a world as its texts mean it: of each handler in flight the active calls that its text has there.
use Rattle.std.specs.Prelude.{ℕ, List, [], Option, Some, None, codes, get_or, length, map, slice_get}
use Rattle.lsl_table.specs.Events.{event_name_of}
use Rattle.lsl_tree.specs.Program.{ProgramState, Program}
use Rattle.lsl_running.specs.Results.{ActiveCall, Whole, Cut}
use Rattle.lsl_script.specs.Lawful.{flight_whole}
use Rattle.lsl_script.specs.Rules.{Rules}
use Rattle.lsl_script.specs.Scripts.{Doing, Resting, Flying, Stopped, Script}
use Rattle.lsl_region.specs.Worlds.{Member, World}
use Rattle.lsl_world.specs.Programs.{rules_of}
use Rattle.lsl_view.specs.Lines.{ShownCall, ShownScript, lines_of}
use Rattle.lsl_view.specs.Names.{routine_names}

-- the active calls of a handler that was cut
abbrev pub calls_in : Whole → List ActiveCall
calls_in (Cut calls) = calls
calls_in other = []

-- of a script in this state: those that its handler reached, from its start, with the flight's event, globals and
-- limit, its ticks and its answers
abbrev pub live_calls : Rules → (code state : ℕ) → Doing → List ActiveCall
live_calls r code state Resting = []
live_calls r code state (Flying f) = calls_in (flight_whole r code state f f.ticks f.answers)
live_calls r code state (Stopped fault) = []

abbrev pub doing_word : Doing → List ℕ
doing_word Resting = codes "idle"
doing_word (Flying f) = event_name_of f.event.id
doing_word (Stopped fault) = codes "dead"

abbrev pub names_in : Option Program → List (List ℕ)
names_in None = []
names_in (Some p) = routine_names p

abbrev pub states_in : Option Program → List ProgramState
states_in None = []
states_in (Some p) = p.states

abbrev pub name_of_state : Option ProgramState → List ℕ
name_of_state None = []
name_of_state (Some state) = state.name

abbrev pub shown_call : (names : List (List ℕ)) → ActiveCall → ShownCall
shown_call names c = record { name = get_or names c.function []; line = c.line; slots = c.slots }

-- a script of this program
abbrev pub shown_by : Rules → Option Program → (name : List ℕ) → Script → ShownScript
shown_by r program name s = record {
  name = name;
  state = name_of_state (slice_get (states_in program) s.state);
  rest = doing_word s.doing;
  queued = length s.mailbox.queue;
  calls = map (shown_call (names_in program)) (live_calls r s.code s.state s.doing);
}

abbrev pub shown_member : List Program → Member → ShownScript
shown_member programs m =
    shown_by (rules_of programs) (slice_get programs m.script.code) m.name m.script

abbrev pub view_of_world : List Program → World → List ℕ
view_of_world programs w = lines_of (map (shown_member programs) w.members)
