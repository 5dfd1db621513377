use Rattle.std.proofs.Common.{◌≡◌, ◌<◌, ◌≤◌, ◌++◌, ◌∷◌, [], Ok, length, sym, ap, ◌∙◌, subst, arith, rules}
use Rattle.std.specs.Prelude.{map}
use Rattle.std.proofs.lemmas.Result.{err_from_is_err_and}
use Rattle.lsl_tree.specs.Statements.{stmt_of, item_of, items_of}
use Rattle.lsl_tree.specs.Expressions.{expr_of, exprs_of}
use Rattle.lsl_tree.specs.Effects.{effect_of}
use Rattle.lsl_tree.specs.Nodes.{node_of}
use Rattle.lsl_tree.specs.Actions.{Action, Actions, AndAction, action_of, actions_of}
use Rattle.lsl_bodies.specs.Known.{known_of}
use Rattle.lsl_bodies.specs.Scope.{ScopeView, FrameView, frame_of}
use Rattle.lsl_bodies.specs.Verdict.{Verdict, ◌>>=◌, Refuses}
use Rattle.lsl_bodies.specs.ValueVerdicts.{value_verdict, effects_verdict}
use Rattle.lsl_bodies.specs.ActionVerdicts.{items_verdict, item_verdict, statement_verdict}
use Rattle.lsl_tree.proofs.ProgramRows.{action_of-Block, actions_of-append}
use Rattle.lsl_tree.proofs.SyntaxRows.{stmt_of-Block}
use Rattle.lsl_bodies.proofs.Walks.{items_walk, item_next, walked, each_next, each_stop, each_end, fails_as}
use Rattle.lsl_bodies.proofs.BlockLemmas.{acted, block_ok, block_leaves}
use Rattle.lsl_bodies.proofs.BlockWalks.{for_is}
use Rattle.lsl_bodies.proofs.BranchLemmas.{otherwise_fails}
use Rattle.lsl_bodies.proofs.Steps.{fails_first, fails_behind, ok_behind}
use Rattle.lsl_bodies.proofs.checker.Checker.+statement.Goals as goal

pub block-returns-clause-found : goal.block-returns-clause-found
block-returns-clause-found t c =
    block_ok (known_of c.args.self.now.known.now) c.args.self.now.home (frame_of c.args.frame.now)
    (frame_of c.open.new.self) (frame_of c.actions.new.frame)
    (items_of c.args.items.now) (actions_of c.in_ok-actions.actions.items) _ c.close.new.self.slots.items
    c.in_ok-outer.ensures.opened c.in_ok-actions.ensures (action_of-Block c.in_ok-actions.actions)
    (ap (λ (f : FrameView). f.slots) c.close.ensures)

pub block-returns-clause-unchanged : goal.block-returns-clause-unchanged
block-returns-clause-unchanged t c =
    block_leaves (known_of c.args.self.now.known.now) c.args.self.now.home (frame_of c.args.frame.now)
    (frame_of c.open.new.self) (frame_of c.actions.new.frame) (frame_of c.close.new.self)
    (items_of c.args.items.now) (actions_of c.in_ok-actions.actions.items) c.in_ok-outer.outer
    c.in_ok-outer.ensures.opened c.in_ok-outer.ensures.outer c.in_ok-actions.ensures c.close.ensures

pub actions-returns-in_err-item : goal.actions-returns-in_err-item
actions-returns-in_err-item t c =
    let known = known_of c.args.self.now.known.now in
    let f = frame_of c.args.frame.now in
    let xs = c.args.items.now in
    let acts = actions_of c.loop-entry.actions.items in
    let lt : c.loop-entry.entry-index < length xs = omega arith in
    let p = err_from_is_err_and c.from_residual-in_err-item.result c.from_residual-in_err-item.ensures.1 in
    rw (p.1, p.2) (fails_as c.in_err-item.field-0.0
    (item_verdict known c.args.self.now.home (frame_of c.loop-entry.frame) (item_of c.entry-item.result))
    (items_verdict known c.args.self.now.home f (items_of xs)) c.in_err-item.ensures (λ g v.
    items_walk known c.args.self.now.home f xs
    ∙ each_stop (item_next known c.args.self.now.home) (acts, frame_of c.loop-entry.frame) g xs
    c.loop-entry.entry-index c.entry-item.result _ lt c.entry-item.is
    (ap (λ (w : Verdict (Action × FrameView)). w >>= λ last. Ok (AndAction acts last.0, last.1)) v)
    c.loop-entry.invariant))

pub actions-loop-entry-preserved : goal.actions-loop-entry-preserved
actions-loop-entry-preserved t c =
    let known = known_of c.args.self.now.known.now in
    let xs = c.args.items.now in
    let acts = actions_of c.loop-entry.actions.items in
    let lt : c.loop-entry.entry-index < length xs = omega arith in
    let items : c.push.new.self.items ≡ c.loop-entry.actions.items ++ c.in_ok-item.field-0 ∷ [] =
    c.in_ok-push.ensures.items in
    let more = ap actions_of items ∙ actions_of-append c.loop-entry.actions.items c.in_ok-item.field-0 in
    let step : item_next known c.args.self.now.home (acts, frame_of c.loop-entry.frame) c.entry-item.result
    ≡ Ok (actions_of c.push.new.self.items, frame_of c.item.new.frame) =
    ap (λ (w : Verdict (Action × FrameView)). w >>= λ last. Ok (AndAction acts last.0, last.1)) c.in_ok-item.ensures
    ∙ ap (λ (a : Actions). walked a (frame_of c.item.new.frame)) (sym more) in
    each_next (item_next known c.args.self.now.home) (acts, frame_of c.loop-entry.frame)
    (actions_of c.push.new.self.items, frame_of c.item.new.frame) xs c.loop-entry.entry-index
    c.entry-item.result _ lt c.entry-item.is step c.loop-entry.invariant

pub actions-returns : goal.actions-returns
actions-returns t c =
    let known = known_of c.args.self.now.known.now in
    let f = frame_of c.args.frame.now in
    let xs = c.args.items.now in
    let over : length xs ≤ c.loop-entry.entry-index = omega arith in
    items_walk known c.args.self.now.home f xs
    ∙ each_end (item_next known c.args.self.now.home)
    (actions_of c.loop-entry.actions.items, frame_of c.loop-entry.frame) xs c.loop-entry.entry-index _ over
    c.loop-entry.invariant

pub statement-returns-in-Block-clause-found : goal.statement-returns-in-Block-clause-found
statement-returns-in-Block-clause-found t c =
    let e = ap stmt_of c.in-Block.is ∙ stmt_of-Block c.in-Block.items in
    rw e (search rules)

pub statement-returns-in-Empty-clause-found : goal.statement-returns-in-Empty-clause-found
statement-returns-in-Empty-clause-found t c = rw action_of-Block (search rules)

pub while_loop-returns-in_err-test-clause-found : goal.while_loop-returns-in_err-test-clause-found
while_loop-returns-in_err-test-clause-found t c =
    let known = known_of c.args.self.now.known.now in
    let f = frame_of c.args.frame.now in
    let e = c.in_err-test.field-0.0 in
    let p = err_from_is_err_and c.from_residual.result c.from_residual.ensures.1 in
    let test = value_verdict known f.scope (expr_of c.args.test.now) in
    rw (p.1, p.2) (fails_first e test _ c.in_err-test.ensures)

pub while_loop-returns-in_err-body-clause-found : goal.while_loop-returns-in_err-body-clause-found
while_loop-returns-in_err-body-clause-found t c =
    let known = known_of c.args.self.now.known.now in
    let home = c.args.self.now.home in
    let f = frame_of c.args.frame.now in
    let e = c.in_err-body.field-0.0 in
    let p = err_from_is_err_and c.from_residual-in_err-body.result c.from_residual-in_err-body.ensures.1 in
    let test = value_verdict known f.scope (expr_of c.args.test.now) in
    let body = statement_verdict known home f (stmt_of c.args.body.now) in
    rw (p.1, p.2) (fails_behind e test _ _ c.in_ok-test.ensures
    (fails_first e body _ c.in_err-body.ensures.found))

pub do_loop-returns-in_err-body-clause-found : goal.do_loop-returns-in_err-body-clause-found
do_loop-returns-in_err-body-clause-found t c =
    let known = known_of c.args.self.now.known.now in
    let home = c.args.self.now.home in
    let f = frame_of c.args.frame.now in
    let e = c.in_err-body.field-0.0 in
    let p = err_from_is_err_and c.from_residual.result c.from_residual.ensures.1 in
    let body = statement_verdict known home f (stmt_of c.args.body.now) in
    rw (p.1, p.2) (fails_first e body _ c.in_err-body.ensures.found)

pub do_loop-returns-in_err-test-clause-found : goal.do_loop-returns-in_err-test-clause-found
do_loop-returns-in_err-test-clause-found t c =
    let known = known_of c.args.self.now.known.now in
    let home = c.args.self.now.home in
    let f = frame_of c.args.frame.now in
    let e = c.in_err-test.field-0.0 in
    let p = err_from_is_err_and c.from_residual-in_err-test.result c.from_residual-in_err-test.ensures.1 in
    let body = statement_verdict known home f (stmt_of c.args.body.now) in
    let test = λ (s : ScopeView). value_verdict known s (expr_of c.args.test.now) in
    let same = ap (λ (g : FrameView). g.scope) c.in_ok-body.ensures.unchanged in
    rw (p.1, p.2) (fails_behind e body _ _ c.in_ok-body.ensures.found
    (fails_first e (test f.scope) _ (subst (λ s. Refuses e (test s)) same c.in_err-test.ensures)))

pub for_loop-returns-in_err-start-clause-found : goal.for_loop-returns-in_err-start-clause-found
for_loop-returns-in_err-start-clause-found t c =
    let known = known_of c.args.self.now.known.now in
    let f = frame_of c.args.frame.now in
    let e = c.in_err-start.field-0.0 in
    let p = err_from_is_err_and c.from_residual.result c.from_residual.ensures.1 in
    let start = effects_verdict known f.scope (exprs_of c.args.start.now) in
    rw (p.1, p.2) (fails_first e start _ c.in_err-start.ensures)

pub for_loop-returns-in_err-test-clause-found : goal.for_loop-returns-in_err-test-clause-found
for_loop-returns-in_err-test-clause-found t c =
    let known = known_of c.args.self.now.known.now in
    let f = frame_of c.args.frame.now in
    let e = c.in_err-test.field-0.0 in
    let p = err_from_is_err_and c.from_residual-in_err-test.result c.from_residual-in_err-test.ensures.1 in
    let start = effects_verdict known f.scope (exprs_of c.args.start.now) in
    let test = value_verdict known f.scope (expr_of c.args.test.now) in
    rw (p.1, p.2) (fails_behind e start _ _ c.in_ok-start.ensures
    (fails_first e test _ c.in_err-test.ensures))

pub for_loop-returns-in_err-steps-clause-found : goal.for_loop-returns-in_err-steps-clause-found
for_loop-returns-in_err-steps-clause-found t c =
    let known = known_of c.args.self.now.known.now in
    let f = frame_of c.args.frame.now in
    let e = c.in_err-steps.field-0.0 in
    let p = err_from_is_err_and c.from_residual-in_err-steps.result c.from_residual-in_err-steps.ensures.1 in
    let start = effects_verdict known f.scope (exprs_of c.args.start.now) in
    let test = value_verdict known f.scope (expr_of c.args.test.now) in
    let steps = effects_verdict known f.scope (exprs_of c.args.step.now) in
    rw (p.1, p.2) (fails_behind e start _ _ c.in_ok-start.ensures
    (fails_behind e test _ _ c.in_ok-test.ensures (fails_first e steps _ c.in_err-steps.ensures)))

pub for_loop-returns-in_err-body-clause-found : goal.for_loop-returns-in_err-body-clause-found
for_loop-returns-in_err-body-clause-found t c =
    let known = known_of c.args.self.now.known.now in
    let home = c.args.self.now.home in
    let f = frame_of c.args.frame.now in
    let e = c.in_err-body.field-0.0 in
    let p = err_from_is_err_and c.from_residual-in_err-body.result c.from_residual-in_err-body.ensures.1 in
    let start = effects_verdict known f.scope (exprs_of c.args.start.now) in
    let test = value_verdict known f.scope (expr_of c.args.test.now) in
    let steps = effects_verdict known f.scope (exprs_of c.args.step.now) in
    let body = statement_verdict known home f (stmt_of c.args.body.now) in
    rw (p.1, p.2) (fails_behind e start _ _ c.in_ok-start.ensures
    (fails_behind e test _ _ c.in_ok-test.ensures
    (fails_behind e steps _ _ c.in_ok-steps.ensures (fails_first e body _ c.in_err-body.ensures.found))))

pub for_loop-returns-clause-found : goal.for_loop-returns-clause-found
for_loop-returns-clause-found t c =
    let known = known_of c.args.self.now.known.now in
    let f = frame_of c.args.frame.now in
    let start = effects_verdict known f.scope (exprs_of c.args.start.now) in
    let test = value_verdict known f.scope (expr_of c.args.test.now) in
    let steps = effects_verdict known f.scope (exprs_of c.args.step.now) in
    let body = statement_verdict known c.args.self.now.home f (stmt_of c.args.body.now) in
    let is = for_is c.push.new.self c.in_ok-actions.actions.items c.in_ok-repeated.field-0
    (map effect_of c.in_ok-start.start.items) _ c.in_ok-push.ensures.items c.in_ok-actions.ensures
    c.in_ok-repeated.ensures in
    ok_behind start _ _ _ c.in_ok-start.ensures
    (ok_behind test _ _ _ c.in_ok-test.ensures
    (ok_behind steps _ _ _ c.in_ok-steps.ensures
    (ok_behind body _ _ _ c.in_ok-body.ensures.found
    (ap (λ (a : Action). acted a c.statement.new.frame.slots.items) (sym is)))))

pub statement-returns-in_err-otherwise-in-IfElse-clause-found :
    goal.statement-returns-in_err-otherwise-in-IfElse-clause-found
statement-returns-in_err-otherwise-in-IfElse-clause-found t c =
    let known = known_of c.args.self.now.known.now in
    let p = err_from_is_err_and c.from_residual-in_err-otherwise-in-IfElse.result
    c.from_residual-in_err-otherwise-in-IfElse.ensures.1 in
    let g = c.statement-in-IfElse.new.frame in
    let first : c.deref-in-IfElse.result.now ≡ c.in-IfElse.then.value = search rules in
    let second : c.deref-in-IfElse-2.result.now ≡ c.in-IfElse.otherwise.value = search rules in
    rw (p.1, p.2, ap stmt_of c.in-IfElse.is)
    (otherwise_fails stmt_of known c.args.self.now.home (frame_of c.args.frame.now) (frame_of g)
    c.in-IfElse.span
    (expr_of c.in-IfElse.test) c.in-IfElse.then.value c.in-IfElse.otherwise.value c.deref-in-IfElse.result.now
    c.deref-in-IfElse-2.result.now
    (node_of c.in_ok-test-in-IfElse.test) (action_of c.in_ok-then-in-IfElse.then) g.slots.items
    c.in_err-otherwise-in-IfElse.field-0.0 first second
    c.in_ok-test-in-IfElse.ensures c.in_ok-then-in-IfElse.ensures.found c.in_ok-then-in-IfElse.ensures.unchanged
    c.in_err-otherwise-in-IfElse.ensures.found)
