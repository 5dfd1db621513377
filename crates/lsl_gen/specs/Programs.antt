-- The code of a program: the functions in text order, and after them the handlers, state by state.
use Rattle.std.specs.Prelude.{ℕ, suc, ◌+◌, List, [], ◌∷◌, ◌++◌, length, map, take, Option, Some, None, is_some, IsTrue, ◌<◌}
use Rattle.lsl_value.specs.declared.tagged.Kind.{Kind}
use Rattle.lsl_table.specs.Events.{event_name_of}
use Rattle.lsl_tree.specs.Actions.{Block}
use Rattle.lsl_tree.specs.Initials.{global_kinds}
use Rattle.lsl_tree.specs.Program.{Routine, NamedRoutine, EventRoutine, ProgramState, Program}
use Rattle.lsl_tree.specs.Signatures.{routines_of, handlers_of}
use Rattle.lsl_code.specs.declared.functions.FunctionCode.{FunctionCode}
use Rattle.lsl_code.specs.declared.functions.Handler.{Handler}
use Rattle.lsl_code.specs.declared.functions.StateCode.{StateCode}
use Rattle.lsl_code.specs.declared.instructions.Instr.{Instr}
use Rattle.lsl_code.specs.declared.instructions.Instr.TheVariants.{Tick, Return}
use Rattle.lsl_code.specs.declared.signatures.Names.{Names}
use Rattle.lsl_code.specs.declared.signatures.Signature.{Signature}
use Rattle.lsl_code.specs.Drafts.{finished}
use Rattle.lsl_code.specs.Effects.{runs}
use Rattle.lsl_code.specs.Kinds.{Scope, scope}
use Rattle.lsl_gen.specs.Statements.{action_code}

-- the end of a routine that gives no value; the body of one that gives a value ends with it
abbrev pub ending : Option Kind → List Instr
ending None = Return ∷ []
ending (Some kind) = []

-- the code of a routine, with lines in place of points
abbrev pub draft_of : Routine → List Instr
draft_of r = Tick r.line ∷ (action_code (Block r.body) [] 1 ++ ending r.kind)

abbrev pub signature_of : Routine → Signature
signature_of r = record { params = take r.params r.slots; result = r.kind }

-- what handlers take and give
abbrev pub handler_signatures : List EventRoutine → List Signature
handler_signatures hs = map signature_of (map (λ h. h.routine) hs)

-- what the code of a program can name, where its globals have these kinds
abbrev pub names_with : List Kind → Program → Names
names_with kinds p =
    record { globals = kinds; functions = map signature_of (routines_of p); states = length p.states }

abbrev pub names_of : Program → Names
names_of p = names_with (global_kinds p) p

-- what the code of a routine can name
abbrev pub scope_of : Program → Routine → Scope
scope_of p r = scope (names_of p) r.slots r.kind

-- the function of this name with a routine's code, among these names
abbrev pub made_by : Names → List ℕ → Routine → FunctionCode
made_by names name r = finished name (scope names r.slots r.kind) r.params (draft_of r)

-- the code finds what it needs
abbrev pub IsReady : Names → Routine → Type 0
IsReady names r = IsTrue (is_some (runs (scope names r.slots r.kind) (draft_of r) []))

-- places in it are numbers of 32 bits
abbrev pub IsShort : Routine → Type 0
IsShort r = length (draft_of r) < 4294967296

abbrev pub routine_code : Program → List ℕ → Routine → FunctionCode
routine_code p = made_by (names_of p)

-- the functions of the script
abbrev pub functions_made : Names → List NamedRoutine → List FunctionCode
functions_made names fs = map (λ f. made_by names f.name f.routine) fs

-- the functions of handlers, which have their events' names
abbrev pub handlers_made : Names → List EventRoutine → List FunctionCode
handlers_made names hs = map (λ h. made_by names (event_name_of h.event) h.routine) hs

abbrev pub generated_functions : Program → List FunctionCode
generated_functions p = functions_made (names_of p) p.functions ++ handlers_made (names_of p) (handlers_of p.states)

-- these handlers, whose functions are numbered from this number on
abbrev pub numbered_handlers : ℕ → List EventRoutine → List Handler
numbered_handlers n [] = []
numbered_handlers n (h ∷ hs) = record { event = h.event; function = n } ∷ numbered_handlers (suc n) hs

abbrev pub numbered_states : ℕ → List ProgramState → List StateCode
numbered_states n [] = []
numbered_states n (s ∷ states) =
    record { name = s.name; handlers = numbered_handlers n s.handlers } ∷ numbered_states (n + length s.handlers) states

abbrev pub generated_states : Program → List StateCode
generated_states p = numbered_states (length p.functions) p.states
