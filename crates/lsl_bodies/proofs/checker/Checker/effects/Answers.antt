use Rattle.std.proofs.Common.{◌≡◌, ◌<◌, ◌≤◌, [], ◌∷◌, ◌++◌, Ok, length, sym, ap, ◌∙◌, arith}
use Rattle.std.specs.Prelude.{map}
use Rattle.std.proofs.lemmas.Result.{err_from_is_err_and}
use Rattle.lsl_tree.specs.Expressions.{expr_of, exprs_of}
use Rattle.lsl_tree.specs.Effects.{Effect, effect_of}
use Rattle.lsl_bodies.specs.Known.{known_of}
use Rattle.lsl_bodies.specs.Scope.{scope_of}
use Rattle.lsl_bodies.specs.Verdict.{Verdict, ◌>>=◌}
use Rattle.lsl_bodies.specs.ValueVerdicts.{effect_verdict, effects_verdict}
use Rattle.lsl_bodies.proofs.Walks.{effects_of, effect_next, each_next, each_stop, each_end, fails_as, map_push}
use Rattle.lsl_bodies.proofs.checker.Checker.effects.Goals as goal

pub returns-in_err-effect : goal.returns-in_err-effect
returns-in_err-effect c =
    let known = known_of c.args.self.now.known.now in
    let s = scope_of c.args.scope.now in
    let lt : c.loop-expr.expr-index < length c.args.exprs.now = omega arith in
    let p = err_from_is_err_and c.from_residual-in_err-effect.result c.from_residual-in_err-effect.ensures.1 in
    rw (p.1, p.2) (fails_as c.in_err-effect.field-0.0 (effect_verdict known s (expr_of c.expr-item.result))
    (effects_verdict known s (exprs_of c.args.exprs.now)) c.in_err-effect.ensures (λ f v.
    effects_of known s c.args.exprs.now
    ∙ each_stop (effect_next known s) (map effect_of c.loop-expr.effects.items) f c.args.exprs.now
    c.loop-expr.expr-index c.expr-item.result _ lt c.expr-item.is
    (ap (λ (w : Verdict Effect). w >>= λ u. Ok (map effect_of c.loop-expr.effects.items ++ u ∷ [])) v)
    c.loop-expr.invariant))

pub loop-expr-preserved : goal.loop-expr-preserved
loop-expr-preserved c =
    let known = known_of c.args.self.now.known.now in
    let s = scope_of c.args.scope.now in
    let lt : c.loop-expr.expr-index < length c.args.exprs.now = omega arith in
    let items : c.push.new.self.items ≡ c.loop-expr.effects.items ++ c.in_ok-effect.field-0 ∷ [] =
    c.in_ok-push.ensures.items in
    let step : effect_next known s (map effect_of c.loop-expr.effects.items) c.expr-item.result
    ≡ Ok (map effect_of c.push.new.self.items) =
    ap (λ (v : Verdict Effect). v >>= λ u. Ok (map effect_of c.loop-expr.effects.items ++ u ∷ []))
    c.in_ok-effect.ensures
    ∙ ap Ok (sym (ap (map effect_of) items ∙ map_push effect_of c.loop-expr.effects.items c.in_ok-effect.field-0)) in
    each_next (effect_next known s) (map effect_of c.loop-expr.effects.items)
    (map effect_of c.push.new.self.items) c.args.exprs.now c.loop-expr.expr-index c.expr-item.result _ lt
    c.expr-item.is step c.loop-expr.invariant

pub returns : goal.returns
returns c =
    let known = known_of c.args.self.now.known.now in
    let s = scope_of c.args.scope.now in
    let over : length c.args.exprs.now ≤ c.loop-expr.expr-index = omega arith in
    effects_of known s c.args.exprs.now ∙ each_end (effect_next known s)
    (map effect_of c.loop-expr.effects.items) c.args.exprs.now c.loop-expr.expr-index _ over
    c.loop-expr.invariant
