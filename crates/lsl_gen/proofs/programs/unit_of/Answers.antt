use Rattle.std.proofs.Common.{◌≡◌, ◌≤◌, ◌++◌, [], length, arith, map, ap, ◌∙◌}
use Rattle.lsl_value.specs.Values.{kind_of}
use Rattle.lsl_tree.specs.Program.{initial_of, function_of, program_of}
use Rattle.lsl_meaning.specs.Globals.{initial_globals, globals_behind}
use Rattle.lsl_gen.specs.Programs.{made_by, names_with, names_of, generated_functions, generated_states}
use Rattle.lsl_gen.proofs.ProgramSteps.{names_are, functions_ready, states_ready, functions_are, states_are, is_short, fits}
use Rattle.lsl_gen.proofs.programs.unit_of.Goals as goal

pub push_functions-requires : goal.push_functions-requires
push_functions-requires c =
    let program = c.args.program.now in
    let globals : c.in_ok-globals.globals ≡ initial_globals (program_of program) =
    c.in_ok-globals.ensures ∙ ap (λ gs. globals_behind [] (map initial_of gs)) c.deref.ensures.value in
    let names : c.in_ok-names.names ≡ names_of (program_of program) =
    names_are program c.requires.kinded _ _ globals
    (c.in_ok-names.ensures ∙ ap (λ vs. names_with (map kind_of vs) (program_of program)) c.as_slice.ensures)
    in
    functions_ready program c.requires.kinded _ _ names c.deref-2.ensures.value

pub push_states-requires : goal.push_states-requires
push_states-requires c =
    let program = c.args.program.now in
    let globals : c.in_ok-globals.globals ≡ initial_globals (program_of program) =
    c.in_ok-globals.ensures ∙ ap (λ gs. globals_behind [] (map initial_of gs)) c.deref.ensures.value in
    let names : c.in_ok-names.names ≡ names_of (program_of program) =
    names_are program c.requires.kinded _ _ globals
    (c.in_ok-names.ensures ∙ ap (λ vs. names_with (map kind_of vs) (program_of program)) c.as_slice.ensures)
    in
    states_ready program c.requires.kinded _ _ names c.deref-3.ensures.value

pub invariant_of-result : goal.invariant_of-result
invariant_of-result c =
    let program = c.args.program.now in
    let globals : c.in_ok-globals.globals ≡ initial_globals (program_of program) =
    c.in_ok-globals.ensures ∙ ap (λ gs. globals_behind [] (map initial_of gs)) c.deref.ensures.value in
    let names : c.in_ok-names.names ≡ names_of (program_of program) =
    names_are program c.requires.kinded _ _ globals
    (c.in_ok-names.ensures ∙ ap (λ vs. names_with (map kind_of vs) (program_of program)) c.as_slice.ensures)
    in
    let first = c.in_ok-push_functions.ensures.made
    ∙ ap (λ l. l ++ map (λ f. made_by c.in_ok-names.names f.name f.routine)
    (map function_of c.deref-2.result.now)) c.new-functions.ensures in
    let functions : c.push_states.new.functions ≡ generated_functions (program_of program) =
    functions_are program _ _ _ _ _ names c.deref-2.ensures.value c.deref-3.ensures.value first
    c.in_ok-states.ensures.made in
    let states : c.in_ok-states.states ≡ generated_states (program_of program) =
    states_are program _ _ _ _ _ c.deref-2.ensures.value c.deref-3.ensures.value first
    c.in_ok-states.ensures.listed in
    let few : length program.states.items ≤ 65535 = omega (arith, c.len.ensures, program.states.ok.0) in
    let short = is_short program _ _ c.deref-2.ensures.value c.deref-3.ensures.value
    c.in_ok-push_functions.ensures.small c.in_ok-states.ensures.small few in
    record { fits = fits program _ _ _ globals states functions c.requires.kinded c.requires.shaped short }

pub returns-clause-functions : goal.returns-clause-functions
returns-clause-functions c =
    let program = c.args.program.now in
    let globals : c.in_ok-globals.globals ≡ initial_globals (program_of program) =
    c.in_ok-globals.ensures ∙ ap (λ gs. globals_behind [] (map initial_of gs)) c.deref.ensures.value in
    let names : c.in_ok-names.names ≡ names_of (program_of program) =
    names_are program c.requires.kinded _ _ globals
    (c.in_ok-names.ensures ∙ ap (λ vs. names_with (map kind_of vs) (program_of program)) c.as_slice.ensures)
    in
    functions_are program _ _ _ _ _ names c.deref-2.ensures.value c.deref-3.ensures.value
    (c.in_ok-push_functions.ensures.made ∙ ap
    (λ l. l ++ map (λ f. made_by c.in_ok-names.names f.name f.routine)
    (map function_of c.deref-2.result.now)) c.new-functions.ensures)
    c.in_ok-states.ensures.made
