-- Scripts without where they lie in memory.
use Rattle.std.specs.Prelude.{Option, None, Some, List, map}
use Rattle.lsl_text.specs.declared.Span.{Span}
use Rattle.lsl_value.specs.declared.tagged.Kind.{Kind}
use Rattle.lsl_tree.specs.declared.expression.Name.{Name}
use Rattle.lsl_tree.specs.declared.script.Atom as declared_atom
use Rattle.lsl_tree.specs.declared.script.Param.{Param}
use Rattle.lsl_tree.specs.declared.script.Simple as declared_simple
use Rattle.lsl_tree.specs.declared.script.Simple.TheVariants as simple
use Rattle.lsl_tree.specs.declared.script.Header as declared_header
use Rattle.lsl_tree.specs.declared.script.Header.TheVariants as header
use Rattle.lsl_tree.specs.declared.script.Handler as declared_handler
use Rattle.lsl_tree.specs.declared.script.State as declared_state
use Rattle.lsl_tree.specs.declared.script.Tree as declared
use Rattle.lsl_tree.specs.Statements.{Items, items_of}

-- a global's initial value
pub data Simple : Type 0 where
  Atom : declared_atom.Atom → Simple
  Atoms : Span → List declared_atom.Atom → Simple

pub data Header : Type 0 where
  Global : Kind → Name → Option Simple → Header
  Function : Option Kind → Name → List Param → Items → Header

pub record Handler : Type 0 where
  pub name : Name
  pub params : List Param
  pub body : Items

pub record State : Type 0 where
  pub name : Name
  pub handlers : List Handler

pub record Tree : Type 0 where
  pub headers : List Header
  pub default : List Handler
  pub states : List State

abbrev pub simple_of : declared_simple.Simple → Simple
simple_of (simple.Atom a) = Atom a
simple_of (simple.List s atoms) = Atoms s atoms.items

abbrev pub initial_value_of : Option declared_simple.Simple → Option Simple
initial_value_of None = None
initial_value_of (Some v) = Some (simple_of v)

abbrev pub header_of : declared_header.Header → Header
header_of (header.Global g) = Global g.kind g.name (initial_value_of g.value)
header_of (header.Function f) = Function f.kind f.name f.params.items (items_of f.body.items)

abbrev pub handler_of : declared_handler.Handler → Handler
handler_of h = record { name = h.name; params = h.params.items; body = items_of h.body.items }

abbrev pub state_of : declared_state.State → State
state_of s = record { name = s.name; handlers = map handler_of s.handlers.items }

abbrev pub tree_of : declared.Tree → Tree
tree_of t = record {
  headers = map header_of t.headers.items;
  default = map handler_of t.default.items;
  states = map state_of t.states.items;
}
