-- The names that a program gives its functions and states, code that keeps them, and the names of a file's scripts.
use Rattle.std.specs.Prelude.{◌≡◌, ℕ, List, ◌++◌, map}
use Rattle.std.specs.List.{AllZip, flat_map}
use Rattle.lsl_table.specs.Events.{event_name_of}
use Rattle.lsl_tree.specs.Program.{Program}
use Rattle.lsl_tree.specs.Signatures.{handlers_of}
use Rattle.lsl_code.specs.declared.woven_functions.WovenCode.{WovenCode}
use Rattle.lsl_code.specs.declared.woven_units.Woven.{Woven as Code}
use Rattle.lsl_lines.specs.declared.file.ObjectLine.{ObjectLine}
use Rattle.lsl_lines.specs.declared.file.PrimLine.{PrimLine}
use Rattle.lsl_lines.specs.declared.file.ScriptLine.{ScriptLine}
use Rattle.lsl_lines.specs.declared.file.WorldFile.{WorldFile}

-- the functions' names, and then the events' of the handlers, state by state: a routine's number is its place here
abbrev pub routine_names : Program → List (List ℕ)
routine_names p = map (λ f. f.name) p.functions ++ map (λ h. event_name_of h.event) (handlers_of p.states)

abbrev pub name_of : WovenCode → List ℕ
name_of function = function.name

-- the code's functions have the names of the program's
abbrev pub IsNamedBy : Program → Code → Type 0
IsNamedBy program code = map name_of code.functions ≡ routine_names program

-- program by program
abbrev pub AreNamedBy : List Program → List Code → Type 0
AreNamedBy programs codes = AllZip IsNamedBy programs codes

abbrev pub names_in_prim : PrimLine → List (List ℕ)
names_in_prim prim = map (λ (s : ScriptLine). s.name) prim.scripts

abbrev pub names_in_object : ObjectLine → List (List ℕ)
names_in_object object = flat_map names_in_prim object.prims

-- the names of the scripts, in the order of their numbers
abbrev pub script_names : WorldFile → List (List ℕ)
script_names file = flat_map names_in_object file.objects
