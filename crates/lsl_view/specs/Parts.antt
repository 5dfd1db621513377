-- The lines of a world's parts, with these names of its scripts, one for each.
use Rattle.std.specs.Prelude.{ℕ, suc, List, [], ◌∷◌, Option, Some, None, codes, get_or, length, map, slice_get}
use Rattle.std.specs.List.{flat_map}
use Rattle.lsl_table.specs.Events.{event_name_of}
use Rattle.lsl_code.specs.declared.frames.Frame.{Frame}
use Rattle.lsl_code.specs.declared.functions.StateCode.{StateCode}
use Rattle.lsl_code.specs.declared.woven_functions.WovenCode.{WovenCode}
use Rattle.lsl_code.specs.declared.woven_units.Woven.{Woven as Code}
use Rattle.lsl_code.specs.Naming.{state_name}
use Rattle.lsl_post.specs.declared.parts.Rest.{Rest}
use Rattle.lsl_post.specs.declared.parts.Rest.TheVariants.{Idle, Saved, Dead}
use Rattle.lsl_post.specs.declared.parts.ScriptParts.{ScriptParts}
use Rattle.lsl_image.specs.declared.parts.Placed.{Placed}
use Rattle.lsl_image.specs.declared.parts.WorldParts.{WorldParts}
use Rattle.lsl_view.specs.Calls.{shown_frame}
use Rattle.lsl_view.specs.Lines.{ShownScript, lines_of}

abbrev pub functions_in : Option Code → List WovenCode
functions_in None = []
functions_in (Some unit) = unit.functions

abbrev pub states_in : Option Code → List StateCode
states_in None = []
states_in (Some unit) = unit.states

-- `idle`, the name of the current event, or `dead`. A script that leaves its state without a current event is idle too
abbrev pub rest_word : Rest → List ℕ
rest_word Idle = codes "idle"
rest_word (Saved event frames) = event_name_of event.id
rest_word (Dead fault) = codes "dead"

abbrev pub frames_in : Rest → List Frame
frames_in Idle = []
frames_in (Saved event frames) = frames
frames_in (Dead fault) = []

-- a script of this unit
abbrev pub shown_in : Option Code → List ℕ → ScriptParts → ShownScript
shown_in unit name s = record {
  name = name;
  state = state_name (states_in unit) s.state;
  rest = rest_word s.rest;
  queued = length s.queue;
  calls = map (shown_frame (functions_in unit)) (frames_in s.rest);
}

abbrev pub shown_script : List Code → List ℕ → ScriptParts → ShownScript
shown_script library name s = shown_in (slice_get library s.unit) name s

-- scripts that follow this many others, each with the name at its place
abbrev pub shown_behind : List Code → (names : List (List ℕ)) → ℕ → List ScriptParts → List ShownScript
shown_behind library names before [] = []
shown_behind library names before (s ∷ more) =
    shown_script library (get_or names before []) s ∷ shown_behind library names (suc before) more

-- the scripts of all objects, in order
abbrev pub scripts_of : Placed → List ScriptParts
scripts_of placed = placed.object.scripts

abbrev pub scripts_in : WorldParts → List ScriptParts
scripts_in parts = flat_map scripts_of parts.objects

abbrev pub view_of_parts : List Code → (names : List (List ℕ)) → WorldParts → List ℕ
view_of_parts library names parts = lines_of (shown_behind library names 0 (scripts_in parts))
