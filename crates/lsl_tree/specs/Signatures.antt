-- What a call takes and gives, and what the routines of a program take and give.
use Rattle.std.specs.Prelude.{List, [], ◌∷◌, ◌++◌, Option, Some, map, take, slice_get}
use Rattle.lsl_value.specs.declared.names.BuiltinId.{BuiltinId}
use Rattle.lsl_value.specs.declared.tagged.Kind.{Kind}
use Rattle.lsl_table.specs.Calls.{row_of}
use Rattle.lsl_tree.specs.declared.program_node.Callee.{Callee}
use Rattle.lsl_tree.specs.declared.program_node.Callee.TheVariants.{Function, Builtin}
use Rattle.lsl_tree.specs.Program.{Routine, EventRoutine, ProgramState, Program}

-- the kinds of the parameters; `result` is none where there is no value
pub record Signature : Type 0 where
  pub params : List Kind
  pub result : Option Kind

-- the parameters are the first slots
abbrev pub signature_of_routine : Routine → Signature
signature_of_routine r = record { params = take r.params r.slots; result = r.kind }

abbrev pub signature_of_builtin : BuiltinId → Signature
signature_of_builtin id = record { params = (row_of id).params; result = (row_of id).result }

-- the signature of what is called, where there is such a function
abbrev pub callee_signature : List Signature → Callee → Option Signature
callee_signature functions (Function n) = slice_get functions n
callee_signature functions (Builtin id) = Some (signature_of_builtin id)

abbrev pub function_signatures : Program → List Signature
function_signatures p = map (λ f. signature_of_routine f.routine) p.functions

abbrev pub handlers_of : List ProgramState → List EventRoutine
handlers_of [] = []
handlers_of (s ∷ states) = s.handlers ++ handlers_of states

-- the functions, and then the handlers, state by state: a routine's number is its place here
abbrev pub routines_of : Program → List Routine
routines_of p = map (λ f. f.routine) p.functions ++ map (λ h. h.routine) (handlers_of p.states)
