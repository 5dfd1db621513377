-- The woven code of a program keeps its names.
use Rattle.std.proofs.Common.{◌≡◌, ◌∙◌, refl, ap, ℕ, List, [], ◌∷◌, ◌++◌}
use Rattle.std.specs.Prelude.{map}
use Rattle.std.proofs.lemmas.List.{map-append}
use Rattle.lsl_table.specs.Events.{event_name_of}
use Rattle.lsl_tree.specs.Program.{EventRoutine, NamedRoutine}
use Rattle.lsl_tree.specs.Signatures.{handlers_of}
use Rattle.lsl_code.specs.declared.functions.FunctionCode.{FunctionCode}
use Rattle.lsl_code.specs.declared.signatures.Names.{Names}
use Rattle.lsl_gen.specs.Programs.{functions_made, generated_functions, handlers_made, names_of}
use Rattle.lsl_weave.specs.Weaving.{woven_function}
use Rattle.lsl_view.specs.Laws.{CompiledCodeIsNamed}
use Rattle.lsl_view.specs.Names.{name_of}

abbrev names : List FunctionCode → List (List ℕ)
names fs = map (λ (f : FunctionCode). f.name) fs

woven : (fs : List FunctionCode) → map name_of (map woven_function fs) ≡ map (λ (f : FunctionCode). f.name) fs
woven [] = refl
woven (f ∷ fs) = ap (λ (ns : List (List ℕ)). f.name ∷ ns) (woven fs)

functions-named : (ns : Names) (fs : List NamedRoutine)
    → map (λ (f : FunctionCode). f.name) (functions_made ns fs) ≡ map (λ (f : NamedRoutine). f.name) fs
functions-named ns [] = refl
functions-named ns (f ∷ fs) = ap (λ (zs : List (List ℕ)). f.name ∷ zs) (functions-named ns fs)

handlers-named : (ns : Names) (hs : List EventRoutine)
    → map (λ (f : FunctionCode). f.name) (handlers_made ns hs)
    ≡ map (λ (h : EventRoutine). event_name_of h.event) hs
handlers-named ns [] = refl
handlers-named ns (h ∷ hs) = ap (λ (zs : List (List ℕ)). event_name_of h.event ∷ zs) (handlers-named ns hs)

pub compiled_code_is_named : CompiledCodeIsNamed
compiled_code_is_named p code made =
    let ns = names_of p in
    let hs = handlers_of p.states in
    ap (map name_of) made ∙ woven (generated_functions p)
    ∙ map-append (λ (f : FunctionCode). f.name) (functions_made ns p.functions) (handlers_made ns hs)
    ∙ ap (λ (zs : List (List ℕ)). zs ++ names (handlers_made ns hs)) (functions-named ns p.functions)
    ∙ ap (λ (zs : List (List ℕ)). map (λ (f : NamedRoutine). f.name) p.functions ++ zs) (handlers-named ns hs)
