use Rattle.std.proofs.Common.{◌<◌, ◌≤◌, [], length, ap, ◌∙◌, subst, arith}
use Rattle.std.specs.Prelude.{map}
use Rattle.std.proofs.lemmas.Result.{err_from_is_err_and}
use Rattle.lsl_tree.specs.Scripts.{header_of}
use Rattle.lsl_tree.specs.Program.{function_of}
use Rattle.lsl_bodies.specs.Known.{known_of}
use Rattle.lsl_bodies.specs.Scope.{scope_of}
use Rattle.lsl_bodies.specs.Verdict.{Refuses, each_verdict}
use Rattle.lsl_type.specs.ScriptVerdicts.{function_body_verdict}
use Rattle.lsl_type.proofs.BodyRounds.{function_next}
use Rattle.lsl_bodies.proofs.Walks.{each_stop, each_end, each_map, fails_as}
use Rattle.lsl_type.proofs.bodies.Bodies.functions.Goals as goal

pub returns-in_err-add_function-clause-found : goal.returns-in_err-add_function-clause-found
returns-in_err-add_function-clause-found c =
    let known = known_of c.args.self.now.known.now in
    let s = scope_of c.args.frame.now.scope in
    let xs = c.args.list.now in
    let before = map function_of c.loop-header.functions.items in
    let x = c.header-item.result in
    let e = c.in_err-add_function.field-0.0 in
    let lt : c.loop-header.header-index < length xs = omega arith in
    let p = err_from_is_err_and c.from_residual.result c.from_residual.ensures.1 in
    let found = subst (λ scope. Refuses e (function_body_verdict known scope before (header_of x)))
    (ap (λ f. f.scope) c.loop-header.invariant.unchanged) c.in_err-add_function.ensures.found in
    rw (p.1, p.2) (fails_as e (function_next known s before x)
    (each_verdict (function_body_verdict known s) [] (map header_of xs)) found (λ f v.
    each_map (function_body_verdict known s) header_of [] xs
    ∙ each_stop (function_next known s) before f xs c.loop-header.header-index x _ lt c.header-item.is v
    c.loop-header.invariant.same))

pub returns-clause-found : goal.returns-clause-found
returns-clause-found c =
    let known = known_of c.args.self.now.known.now in
    let s = scope_of c.args.frame.now.scope in
    let xs = c.args.list.now in
    let over : length xs ≤ c.loop-header.header-index = omega arith in
    each_map (function_body_verdict known s) header_of [] xs
    ∙ each_end (function_next known s) (map function_of c.loop-header.functions.items) xs
    c.loop-header.header-index _ over c.loop-header.invariant.same
