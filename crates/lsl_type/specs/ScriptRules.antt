-- The meaning of scripts, and their first faults: headers in text order, then bodies.
use Rattle.std.specs.Prelude.{ℕ, Option, None, List, [], ◌∷◌, ◌++◌, codes}
use Rattle.lsl_value.specs.declared.tagged.Kind.{Kind}
use Rattle.lsl_tree.specs.declared.expression.Name.{Name}
use Rattle.lsl_tree.specs.declared.script.Param.{Param}
use Rattle.lsl_tree.specs.Statements.{Items}
use Rattle.lsl_tree.specs.Scripts as source
use Rattle.lsl_tree.specs.Scripts.{Header, State, Tree}
use Rattle.lsl_tree.specs.Program.{NamedRoutine, EventRoutine, ProgramState, Program}
use Rattle.lsl_bodies.specs.declared.faults.TypeKind.TheVariants.{WrongHandler}
use Rattle.lsl_bodies.specs.declared.frame.Home.TheVariants.{Handler, Function}
use Rattle.lsl_bodies.specs.Scope.{ScopeView, spelled}
use Rattle.lsl_bodies.specs.Known.{KnownView}
use Rattle.lsl_bodies.specs.BodyRules.{body}
use Rattle.lsl_type.specs.Headers.{no_headers, known_from}
use Rattle.lsl_bodies.specs.Table.{IsEvent}
use Rattle.lsl_bodies.specs.Judgement.{at, Judgement, gives, ◌>>=◌, the_one, each}
use Rattle.lsl_type.specs.HeaderRules.{header, handler, state}

abbrev pub function_routine : KnownView → ScopeView → Option Kind → Name → List Param → Items → Judgement NamedRoutine
function_routine known s k x params es = do
  routine ← body known s (Function k) x k params es
  gives (record { name = x.text; routine = routine })

abbrev pub function_body : KnownView → ScopeView → List NamedRoutine → Header → Judgement (List NamedRoutine)
function_body known s before (source.Global k x v) = gives before
function_body known s before (source.Function k x params es) = do
  routine ← function_routine known s k x params es
  gives (before ++ routine ∷ [])

abbrev pub handler_routine : KnownView → ScopeView → source.Handler → Judgement EventRoutine
handler_routine known s h = do
  event ← the_one (IsEvent (spelled h.name)) (at WrongHandler h.name.span)
  routine ← body known s Handler h.name None h.params h.body
  gives (record { event = event; routine = routine })

abbrev pub handler_body : KnownView → ScopeView → List EventRoutine → source.Handler → Judgement (List EventRoutine)
handler_body known s before h = do
  routine ← handler_routine known s h
  gives (before ++ routine ∷ [])

abbrev pub program_state : KnownView → ScopeView → State → Judgement ProgramState
program_state known s st = do
  handlers ← each (handler_body known s) [] st.handlers
  gives (record { name = st.name.text; handlers = handlers })

abbrev pub state_body : KnownView → ScopeView → List ProgramState → State → Judgement (List ProgramState)
state_body known s before st = do
  routine ← program_state known s st
  gives (before ++ routine ∷ [])

abbrev pub default_name : List ℕ
default_name = codes "default"

-- a whole script
abbrev pub script : Tree → Judgement Program
script tree = do
  headers ← each header no_headers tree.headers
  events ← each handler [] tree.default
  states ← each state [] tree.states
  functions ← each (function_body (known_from headers states) headers.scope) [] tree.headers
  start ← each (handler_body (known_from headers states) headers.scope) [] tree.default
  all ← each (state_body (known_from headers states) headers.scope)
      (record { name = default_name; handlers = start } ∷ []) tree.states
  gives (record { globals = headers.globals; functions = functions; states = all })
