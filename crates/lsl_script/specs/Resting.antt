-- The parts of a script that comes to rest: at a tick, or for good.
use Rattle.std.specs.Prelude.{ℕ, List, [], None}
use Rattle.lsl_running.specs.declared.ends.Fault.{Fault}
use Rattle.lsl_running.specs.declared.kept.Kept.{Kept}
use Rattle.lsl_running.specs.Charging.{default_limit}
use Rattle.lsl_code.specs.declared.frames.Frame.{Frame}
use Rattle.lsl_code.specs.declared.woven_units.Woven.{Woven as Code}
use Rattle.lsl_post.specs.declared.events.Event.{Event}
use Rattle.lsl_post.specs.declared.parts.Rest.TheVariants.{Saved, Dead}
use Rattle.lsl_post.specs.declared.parts.ScriptParts.{ScriptParts}
use Rattle.lsl_post.specs.Listens.{no_listens}
use Rattle.lsl_post.specs.Timing.{stopped}
use Rattle.lsl_script.specs.declared.live.Live.{Live}
use Rattle.lsl_script.specs.Parts.{timer_of}

-- the parts of an awake script with what its machine has
abbrev pub keeping : Kept → ScriptParts → ScriptParts
keeping kept parts = record parts { globals = kept.globals; limit = kept.limit }

-- at a tick: the handler of the current event is saved as these calls, and all else that waits stays
abbrev pub saved_parts : ScriptParts → Kept → Event → List Frame → ScriptParts
saved_parts parts kept e frames = record parts { globals = kept.globals; limit = kept.limit; rest = Saved e frames }

-- for good: nothing waits and nothing is kept, but the state and the time of waking stay
abbrev pub failed_parts : Code → Fault → ScriptParts → ScriptParts
failed_parts unit fault parts = record parts {
  globals = unit.globals;
  limit = default_limit;
  leaving = None;
  queue = [];
  listens = no_listens;
  timer = timer_of stopped;
  rest = Dead fault;
}

-- while it stays awake: all is unchanged, except the capacity of its machine
abbrev pub with_room : Live → ℕ → Live
with_room live room = record live { machine = record live.machine { room = room } }
