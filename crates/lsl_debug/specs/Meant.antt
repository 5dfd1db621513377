-- The command that the program's own one means.
use Rattle.std.specs.Prelude.{ℕ, List, Option, Some, None, option_map, map, string_bytes}
use Rattle.lsl_top.specs.declared.positions.Position.{Position}
use Rattle.lsl_debug.specs.Words.{Command, StateAt, State, Trace, Moment, Stops}
use Rattle.lsl_debug.specs.declared.words.Look.{Look}
use Rattle.lsl_debug.specs.declared.words.Look.TheVariants.{Moment as MomentLook, Stops as StopsLook}
use Rattle.lsl_debug.specs.declared.words.Command.{Command as CodeCommand}
use Rattle.lsl_debug.specs.declared.words.Command.TheVariants.{State as StateCommand, Trace as TraceCommand, Look as LookCommand}

abbrev pub state_meant : Option Position → List ℕ → Command
state_meant None world = State world
state_meant (Some at) world = StateAt at.step at.segment world

abbrev pub look_meant : List ℕ → Look → Command
look_meant trace (MomentLook moment words) = Moment trace moment (map string_bytes words.now)
look_meant trace StopsLook = Stops trace

abbrev pub command_meant : CodeCommand → Command
command_meant (StateCommand at world) = state_meant at world.now
command_meant (TraceCommand request) = Trace request.first request.last request.world.now
command_meant (LookCommand trace look) = look_meant trace.now look

abbrev pub meant_by : Option CodeCommand → Option Command
meant_by command = option_map command_meant command
