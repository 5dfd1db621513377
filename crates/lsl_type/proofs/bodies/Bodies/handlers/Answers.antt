use Rattle.std.proofs.Common.{◌<◌, ◌≤◌, [], ◌∷◌, ◌++◌, Ok, length, ap, ◌∙◌, subst, arith}
use Rattle.std.specs.Prelude.{map}
use Rattle.std.proofs.lemmas.Result.{err_from_is_err_and}
use Rattle.lsl_tree.specs.Scripts.{handler_of}
use Rattle.lsl_tree.specs.Program as program
use Rattle.lsl_tree.specs.Program.{EventRoutine}
use Rattle.lsl_bodies.specs.Known.{known_of}
use Rattle.lsl_bodies.specs.Scope.{scope_of}
use Rattle.lsl_bodies.specs.Verdict.{Verdict, ◌>>=◌, Refuses, each_verdict}
use Rattle.lsl_type.specs.ScriptVerdicts.{handler_routine_verdict, handler_body_verdict}
use Rattle.lsl_type.proofs.BodyRounds.{handler_next}
use Rattle.lsl_bodies.proofs.Walks.{each_stop, each_end, each_map, fails_as}
use Rattle.lsl_type.proofs.bodies.Bodies.handlers.Goals as goal

pub returns-in_err-handler-clause-found : goal.returns-in_err-handler-clause-found
returns-in_err-handler-clause-found c =
    let known = known_of c.args.self.now.known.now in
    let s = scope_of c.args.frame.now.scope in
    let xs = c.args.list.now in
    let before = map program.handler_of c.loop-handler.routines.items in
    let x = c.handler-item.result in
    let e = c.in_err-handler.field-0.0 in
    let lt : c.loop-handler.handler-index < length xs = omega arith in
    let p = err_from_is_err_and c.from_residual-in_err-handler.result c.from_residual-in_err-handler.ensures.1 in
    let found = subst (λ scope. Refuses e (handler_routine_verdict known scope (handler_of x)))
    (ap (λ f. f.scope) c.loop-handler.invariant.unchanged) c.in_err-handler.ensures.found in
    rw (p.1, p.2) (fails_as e (handler_routine_verdict known s (handler_of x))
    (each_verdict (handler_body_verdict known s) [] (map handler_of xs)) found (λ f v.
    each_map (handler_body_verdict known s) handler_of [] xs
    ∙ each_stop (handler_next known s) before f xs c.loop-handler.handler-index x _ lt c.handler-item.is
    (ap (λ (w : Verdict EventRoutine). w >>= λ u. Ok (before ++ u ∷ [])) v) c.loop-handler.invariant.same))

pub returns-clause-found : goal.returns-clause-found
returns-clause-found c =
    let known = known_of c.args.self.now.known.now in
    let s = scope_of c.args.frame.now.scope in
    let xs = c.args.list.now in
    let over : length xs ≤ c.loop-handler.handler-index = omega arith in
    each_map (handler_body_verdict known s) handler_of [] xs
    ∙ each_end (handler_next known s) (map program.handler_of c.loop-handler.routines.items) xs
    c.loop-handler.handler-index _ over c.loop-handler.invariant.same
