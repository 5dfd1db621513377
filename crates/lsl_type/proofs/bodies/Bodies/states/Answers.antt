use Rattle.std.proofs.Common.{◌<◌, ◌≤◌, List, [], ◌∷◌, ◌++◌, Ok, length, ap, ◌∙◌, subst, arith}
use Rattle.std.specs.Prelude.{map}
use Rattle.std.proofs.lemmas.Result.{err_from_is_err_and}
use Rattle.lsl_tree.specs.Scripts.{state_of}
use Rattle.lsl_tree.specs.Program as program
use Rattle.lsl_tree.specs.Program.{ProgramState, handler_of}
use Rattle.lsl_bodies.specs.Known.{known_of}
use Rattle.lsl_bodies.specs.Scope.{scope_of}
use Rattle.lsl_bodies.specs.Verdict.{Verdict, ◌>>=◌, Refuses, each_verdict}
use Rattle.lsl_type.specs.ScriptVerdicts.{program_state_verdict, state_body_verdict}
use Rattle.lsl_type.specs.ScriptRules.{default_name}
use Rattle.lsl_type.proofs.BodyRounds.{state_next}
use Rattle.lsl_bodies.proofs.Walks.{each_stop, each_end, each_map, fails_as}
use Rattle.lsl_type.proofs.bodies.Bodies.states.Goals as goal

pub returns-in_err-state : goal.returns-in_err-state
returns-in_err-state c =
    let known = known_of c.args.self.now.known.now in
    let s = scope_of c.args.frame.now.scope in
    let xs = c.args.list.now in
    let before = map program.state_of c.loop-state.states.items in
    let first : List ProgramState = record { name = default_name; handlers = map handler_of c.args.start.items } ∷ [] in
    let x = c.state-item.result in
    let e = c.in_err-state.field-0.0 in
    let lt : c.loop-state.state-index < length xs = omega arith in
    let p = err_from_is_err_and c.from_residual-in_err-state.result c.from_residual-in_err-state.ensures.1 in
    let found = subst (λ scope. Refuses e (program_state_verdict known scope (state_of x)))
    (ap (λ f. f.scope) c.loop-state.invariant.unchanged) c.in_err-state.ensures.found in
    rw (p.1, p.2) (fails_as e (program_state_verdict known s (state_of x))
    (each_verdict (state_body_verdict known s) first (map state_of xs)) found (λ f v.
    each_map (state_body_verdict known s) state_of first xs
    ∙ each_stop (state_next known s) before f xs c.loop-state.state-index x _ lt c.state-item.is
    (ap (λ (w : Verdict ProgramState). w >>= λ u. Ok (before ++ u ∷ [])) v) c.loop-state.invariant.same))

pub returns : goal.returns
returns c =
    let known = known_of c.args.self.now.known.now in
    let s = scope_of c.args.frame.now.scope in
    let xs = c.args.list.now in
    let first : List ProgramState = record { name = default_name; handlers = map handler_of c.args.start.items } ∷ [] in
    let over : length xs ≤ c.loop-state.state-index = omega arith in
    each_map (state_body_verdict known s) state_of first xs
    ∙ each_end (state_next known s) (map program.state_of c.loop-state.states.items) xs c.loop-state.state-index
    _ over c.loop-state.invariant.same
