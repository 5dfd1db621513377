use Rattle.std.proofs.Common.{◌<◌, length, arith, ◌∙◌}
use Rattle.lsl_gen.proofs.Emitted.{values_step, call_step, list_step}
use Rattle.lsl_gen.proofs.expressions.+emit.Goals as goal

pub emit_value-returns-in_ok-emit_call-in-Call : goal.emit_value-returns-in_ok-emit_call-in-Call
emit_value-returns-in_ok-emit_call-in-Call t c =
    call_step _ _ _ _ _ _ _ _ _ c.in-Call.is c.deref.ensures.value c.in_ok-emit_values-in-Call.ensures
    c.in_ok-emit_call-in-Call.ensures

pub emit_value-returns-in_ok-push-in-List : goal.emit_value-returns-in_ok-push-in-List
emit_value-returns-in_ok-push-in-List t c =
    list_step _ _ _ _ _ _ _ _ c.in-List.is c.deref-in-List.ensures.value
    (c.len.ensures ∙ c.in-List.elements.ok.0) c.in_ok-count-in-List.ensures
    c.in_ok-emit_values-in-List.ensures c.in_ok-push-in-List.ensures.ok

pub emit_values-loop-node-preserved : goal.emit_values-loop-node-preserved
emit_values-loop-node-preserved t c =
    let lt : c.loop-node.node-index < length c.args.nodes.now = omega arith in
    values_step _ _ _ _ _ _ lt c.node-item.is c.loop-node.invariant c.in_ok-emit_value.ensures
