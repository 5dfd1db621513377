-- The meaning of scripts, and their first faults, as functions.
use Rattle.std.specs.Prelude.{ℕ, Option, None, List, [], ◌∷◌, ◌++◌, Ok}
use Rattle.lsl_value.specs.declared.tagged.Kind.{Kind}
use Rattle.lsl_tree.specs.declared.expression.Name.{Name}
use Rattle.lsl_tree.specs.declared.script.Param.{Param}
use Rattle.lsl_tree.specs.Statements.{Items}
use Rattle.lsl_tree.specs.Statements.{Items}
use Rattle.lsl_tree.specs.Scripts as source
use Rattle.lsl_tree.specs.Scripts.{Header, State, Tree}
use Rattle.lsl_tree.specs.Program.{Initial, NamedRoutine, EventRoutine, ProgramState, Program}
use Rattle.lsl_bodies.specs.declared.faults.TypeKind.TheVariants.{WrongHandler}
use Rattle.lsl_bodies.specs.declared.frame.Home.TheVariants.{Handler, Function}
use Rattle.lsl_bodies.specs.Scope.{ScopeView, spelled}
use Rattle.lsl_bodies.specs.Known.{KnownView}
use Rattle.lsl_bodies.specs.BodyVerdicts.{body_verdict}
use Rattle.lsl_type.specs.Headers.{HeadersView, no_headers, known_from}
use Rattle.lsl_bodies.specs.Table.{event_of}
use Rattle.lsl_bodies.specs.Judgement.{at}
use Rattle.lsl_bodies.specs.Verdict.{Verdict, ◌>>=◌, the_one_verdict, each_verdict}
use Rattle.lsl_type.specs.ScriptRules.{default_name}
use Rattle.lsl_type.specs.HeaderVerdicts.{header_verdict, handler_verdict, state_verdict}

abbrev pub function_routine_verdict :
    KnownView → ScopeView → Option Kind → Name → List Param → Items → Verdict NamedRoutine
function_routine_verdict known s k x params es = do
  routine ← body_verdict known s (Function k) x k params es
  Ok (record { name = x.text; routine = routine })

abbrev pub function_body_verdict : KnownView → ScopeView → List NamedRoutine → Header → Verdict (List NamedRoutine)
function_body_verdict known s before (source.Global k x v) = Ok before
function_body_verdict known s before (source.Function k x params es) = do
  routine ← function_routine_verdict known s k x params es
  Ok (before ++ routine ∷ [])

abbrev pub handler_routine_verdict : KnownView → ScopeView → source.Handler → Verdict EventRoutine
handler_routine_verdict known s h = do
  event ← the_one_verdict (event_of (spelled h.name)) (at WrongHandler h.name.span)
  routine ← body_verdict known s Handler h.name None h.params h.body
  Ok (record { event = event; routine = routine })

abbrev pub handler_body_verdict :
    KnownView → ScopeView → List EventRoutine → source.Handler → Verdict (List EventRoutine)
handler_body_verdict known s before h = do
  routine ← handler_routine_verdict known s h
  Ok (before ++ routine ∷ [])

abbrev pub program_state_verdict : KnownView → ScopeView → State → Verdict ProgramState
program_state_verdict known s st = do
  handlers ← each_verdict (handler_body_verdict known s) [] st.handlers
  Ok (record { name = st.name.text; handlers = handlers })

abbrev pub state_body_verdict : KnownView → ScopeView → List ProgramState → State → Verdict (List ProgramState)
state_body_verdict known s before st = do
  routine ← program_state_verdict known s st
  Ok (before ++ routine ∷ [])

-- the program, once its globals and functions are known
abbrev pub states_verdict : KnownView → ScopeView → List Initial → List NamedRoutine → Tree → Verdict Program
states_verdict known s globals functions tree = do
  start ← each_verdict (handler_body_verdict known s) [] tree.default
  all ← each_verdict (state_body_verdict known s)
      (record { name = default_name; handlers = start } ∷ []) tree.states
  Ok (record { globals = globals; functions = functions; states = all })

-- the program, once its globals are known
abbrev pub routines_verdict : KnownView → ScopeView → List Initial → Tree → Verdict Program
routines_verdict known s globals tree = do
  functions ← each_verdict (function_body_verdict known s) [] tree.headers
  states_verdict known s globals functions tree

abbrev pub bodies_verdict : HeadersView → List (List ℕ) → Tree → Verdict Program
bodies_verdict headers states tree =
    routines_verdict (known_from headers states) headers.scope headers.globals tree

abbrev pub script_verdict : Tree → Verdict Program
script_verdict tree = do
  headers ← each_verdict header_verdict no_headers tree.headers
  events ← each_verdict handler_verdict [] tree.default
  states ← each_verdict state_verdict [] tree.states
  bodies_verdict headers states tree
