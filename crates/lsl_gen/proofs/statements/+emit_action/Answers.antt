use Rattle.std.proofs.Common.{◌<◌, ◌++◌, [], length, map, arith, ap, ap₂, sym, ◌∙◌}
use Rattle.lsl_tree.specs.Actions.{IfElse, action_of}
use Rattle.lsl_tree.specs.Effects.{effect_of}
use Rattle.lsl_tree.specs.Nodes.{node_of}
use Rattle.lsl_gen.specs.OpenJumps.{open_jumps}
use Rattle.lsl_gen.specs.Statements.{action_code}
use Rattle.lsl_gen.proofs.EmittedActions.{actions_step, block_code, of_block_code, of_block_jumps, if_code, if_jumps, then_behind, then_over, either_code, either_jumps, loop_code, do_step}
use Rattle.lsl_gen.proofs.statements.+emit_action.Goals as goal

pub emit_action-returns-in_ok-emit_block-in-Block-clause-code :
    goal.emit_action-returns-in_ok-emit_block-in-Block-clause-code
emit_action-returns-in_ok-emit_block-in-Block-clause-code t c =
    of_block_code _ _ _ _ _ c.in-Block.is c.deref.ensures.value c.in_ok-emit_block-in-Block.ensures.code

pub emit_action-returns-in_ok-emit_block-in-Block-clause-jumps :
    goal.emit_action-returns-in_ok-emit_block-in-Block-clause-jumps
emit_action-returns-in_ok-emit_block-in-Block-clause-jumps t c =
    of_block_jumps _ _ _ _ _ _ c.in-Block.is c.deref.ensures.value c.in_ok-emit_block-in-Block.ensures.jumps

pub emit_action-returns-in_ok-lead_behind-in-IfElse-clause-code :
    goal.emit_action-returns-in_ok-lead_behind-in-IfElse-clause-code
emit_action-returns-in_ok-lead_behind-in-IfElse-clause-code t c =
    let base = c.args.draft.now in
    let n = length base in
    either_code base _ _ _ (node_of c.in-IfElse.test) (action_of c.deref-in-IfElse.result.now)
    (action_of c.deref-in-IfElse-2.result.now) _
    c.in_ok-over-in-IfElse.ensures.code c.in_ok-over-in-IfElse.ensures.over
    c.in_ok-emit_action-in-IfElse.ensures.code c.in_ok-lead_behind-in-IfElse.ensures
    ∙ ap₂ (λ x y. base ++ action_code (IfElse (node_of c.in-IfElse.test) (action_of x) (action_of y)) [] n)
    c.deref-in-IfElse.ensures c.deref-in-IfElse-2.ensures
    ∙ ap (λ a. base ++ action_code (action_of a) [] n) (sym c.in-IfElse.is)

pub emit_action-returns-in_ok-lead_behind-in-IfElse-clause-jumps :
    goal.emit_action-returns-in_ok-lead_behind-in-IfElse-clause-jumps
emit_action-returns-in_ok-lead_behind-in-IfElse-clause-jumps t c =
    let base = c.args.draft.now in
    let before = c.args.jumps.now.items in
    let n = length base in
    either_jumps base _ _ _ before (node_of c.in-IfElse.test) (action_of c.deref-in-IfElse.result.now)
    (action_of c.deref-in-IfElse-2.result.now)
    c.in_ok-over-in-IfElse.ensures.code c.in_ok-over-in-IfElse.ensures.jumps
    c.in_ok-emit_action-in-IfElse.ensures.jumps
    ∙ ap₂ (λ x y. before ++ open_jumps (IfElse (node_of c.in-IfElse.test) (action_of x) (action_of y)) n)
    c.deref-in-IfElse.ensures c.deref-in-IfElse-2.ensures
    ∙ ap (λ a. before ++ open_jumps (action_of a) n) (sym c.in-IfElse.is)

pub emit_if-returns-clause-code : goal.emit_if-returns-clause-code
emit_if-returns-clause-code t c =
    if_code c.args.draft.now _ _ _ (node_of c.args.test.now) (action_of c.args.then.now) _
    c.in_ok-fails.ensures.code c.in_ok-fails.ensures.place c.in_ok-emit_action.ensures.code
    c.in_ok-lead_behind.ensures

pub emit_if-returns-clause-jumps : goal.emit_if-returns-clause-jumps
emit_if-returns-clause-jumps t c =
    if_jumps c.args.draft.now _ _ _ (node_of c.args.test.now) (action_of c.args.then.now)
    c.in_ok-fails.ensures.code c.in_ok-emit_action.ensures.jumps

pub emit_then-returns-clause-code : goal.emit_then-returns-clause-code
emit_then-returns-clause-code t c =
    then_behind c.args.draft.now _ _ _ _ (node_of c.args.test.now) (action_of c.args.then.now) _
    c.in_ok-fails.ensures.code c.in_ok-fails.ensures.place c.in_ok-emit_action.ensures.code
    c.in_ok-push.ensures.ok c.in_ok-lead_behind.ensures

pub emit_then-returns-clause-jumps : goal.emit_then-returns-clause-jumps
emit_then-returns-clause-jumps t c =
    if_jumps c.args.draft.now _ _ _ (node_of c.args.test.now) (action_of c.args.then.now)
    c.in_ok-fails.ensures.code c.in_ok-emit_action.ensures.jumps

pub emit_then-returns-clause-over : goal.emit_then-returns-clause-over
emit_then-returns-clause-over t c =
    then_over c.args.draft.now _ _ (node_of c.args.test.now) (action_of c.args.then.now) _
    c.in_ok-fails.ensures.code c.in_ok-emit_action.ensures.code c.len-over.ensures

pub emit_loop-returns-clause-code : goal.emit_loop-returns-clause-code
emit_loop-returns-clause-code t c =
    loop_code _ c.args.draft.now _ _ _ _ _ _ (node_of c.args.test.now) (map effect_of c.args.steps.now)
    (action_of c.args.body.now) _ _ _ c.len.ensures c.in_ok-start.ensures
    c.in_ok-fails.ensures.code c.in_ok-fails.ensures.place c.in_ok-emit_action.ensures.code
    c.in_ok-emit_effects.ensures c.in_ok-push_tick.ensures.ok c.in_ok-push.ensures.ok c.in_ok-lead_behind.ensures

pub emit_loop-returns-clause-jumps : goal.emit_loop-returns-clause-jumps
emit_loop-returns-clause-jumps t c =
    if_jumps c.args.draft.now _ _ _ (node_of c.args.test.now) (action_of c.args.body.now)
    c.in_ok-fails.ensures.code c.in_ok-emit_action.ensures.jumps

pub emit_do-returns-clause-code : goal.emit_do-returns-clause-code
emit_do-returns-clause-code t c =
    do_step _ c.args.draft.now _ _ _ _ _ (node_of c.args.test.now) (action_of c.args.body.now) _ _ _ _ _
    c.len.ensures c.in_ok-start.ensures c.in_ok-emit_action.ensures.code
    c.in_ok-emit_value.ensures c.len-2.ensures c.in_ok-end.ensures c.in_ok-to.ensures
    c.in_ok-push.ensures.ok c.in_ok-push_tick.ensures.ok c.in_ok-push-2.ensures.ok

pub emit_block-returns-clause-code : goal.emit_block-returns-clause-code
emit_block-returns-clause-code t c =
    block_code _ _ c.args.draft.now _ _ _ c.args.actions.now c.new-inner.ensures.items
    c.in_ok-labels.ensures.code (c.deref.ensures.value ∙ c.in_ok-labels.ensures.jumps)
    (c.in_ok-labels-2.ensures ∙ c.in_ok-labels.ensures.labels) c.in_ok-close_jumps.ensures.code

pub emit_actions-loop-action-preserved : goal.emit_actions-loop-action-preserved
emit_actions-loop-action-preserved t c =
    let lt : c.loop-action.action-index < length c.args.actions.now = omega arith in
    actions_step _ _ _ _ _ _ _ _ _ _ _ _ lt c.action-item.is c.loop-action.invariant c.len.ensures
    c.in_ok-push_label.ensures c.in_ok-emit_action.ensures.code c.in_ok-emit_action.ensures.jumps
