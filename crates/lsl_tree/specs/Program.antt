-- Checked programs without where they lie in memory, under the names that the code has.
use Rattle.std.specs.Prelude.{ℕ, List, Option, map}
use Rattle.lsl_value.specs.declared.names.EventId.{EventId}
use Rattle.lsl_value.specs.declared.tagged.Kind.{Kind}
use Rattle.lsl_tree.specs.declared.program.Part.{Part}
use Rattle.lsl_tree.specs.declared.program.Initial as declared_initial
use Rattle.lsl_tree.specs.declared.program.Initial.TheVariants as initial
use Rattle.lsl_tree.specs.declared.program.NamedRoutine as declared_function
use Rattle.lsl_tree.specs.declared.program.EventRoutine as declared_handler
use Rattle.lsl_tree.specs.declared.program.ProgramState as declared_state
use Rattle.lsl_tree.specs.declared.program.Program as declared_program
use Rattle.lsl_tree.specs.declared.program_action.Routine as declared_routine
use Rattle.lsl_tree.specs.Actions.{Actions, actions_of}

-- a function or a handler
pub record Routine : Type 0 where
  pub line : ℕ
  pub kind : Option Kind
  pub params : ℕ
  pub slots : List Kind
  pub body : Actions

-- a global's initial value
pub data Initial : Type 0 where
  Single : Part → Initial
  Cast : Kind → Part → Initial
  ListLiteral : List Part → Initial

pub record NamedRoutine : Type 0 where
  pub name : List ℕ
  pub routine : Routine

pub record EventRoutine : Type 0 where
  pub event : EventId
  pub routine : Routine

pub record ProgramState : Type 0 where
  pub name : List ℕ
  pub handlers : List EventRoutine

pub record Program : Type 0 where
  pub globals : List Initial
  pub functions : List NamedRoutine
  pub states : List ProgramState

abbrev pub routine_of : declared_routine.Routine → Routine
routine_of r = record {
  line = r.line;
  kind = r.kind;
  params = r.params;
  slots = r.slots.items;
  body =
      actions_of r.body.items;
}

abbrev pub initial_of : declared_initial.Initial → Initial
initial_of (initial.Part p) = Single p
initial_of (initial.Cast k p) = Cast k p
initial_of (initial.List v) = ListLiteral v.items

abbrev pub function_of : declared_function.NamedRoutine → NamedRoutine
function_of f = record { name = f.name; routine = routine_of f.routine }

abbrev pub handler_of : declared_handler.EventRoutine → EventRoutine
handler_of r = record { event = r.event; routine = routine_of r.routine }

abbrev pub state_of : declared_state.ProgramState → ProgramState
state_of s = record { name = s.name; handlers = map handler_of s.handlers.items }

abbrev pub program_of : declared_program.Program → Program
program_of p = record {
  globals = map initial_of p.globals.items;
  functions = map function_of p.functions.items;
  states = map state_of p.states.items;
}
