-- Bodies in a row, from the first to the last.
use Rattle.std.specs.Prelude.{List}
use Rattle.lsl_tree.specs.declared.script.Handler.{Handler}
use Rattle.lsl_tree.specs.declared.script.Header.{Header}
use Rattle.lsl_tree.specs.declared.script.State.{State}
use Rattle.lsl_tree.specs.Scripts.{header_of, handler_of, state_of}
use Rattle.lsl_tree.specs.Program.{NamedRoutine, EventRoutine, ProgramState}
use Rattle.lsl_bodies.specs.Known.{KnownView}
use Rattle.lsl_bodies.specs.Scope.{ScopeView}
use Rattle.lsl_bodies.specs.Verdict.{Verdict}
use Rattle.lsl_type.specs.ScriptVerdicts.{function_body_verdict, handler_body_verdict, state_body_verdict}

abbrev pub function_next : KnownView → ScopeView → List NamedRoutine → Header → Verdict (List NamedRoutine)
function_next known s before x = function_body_verdict known s before (header_of x)

abbrev pub handler_next : KnownView → ScopeView → List EventRoutine → Handler → Verdict (List EventRoutine)
handler_next known s before x = handler_body_verdict known s before (handler_of x)

abbrev pub state_next : KnownView → ScopeView → List ProgramState → State → Verdict (List ProgramState)
state_next known s before x = state_body_verdict known s before (state_of x)
