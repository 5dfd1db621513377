use Rattle.std.proofs.Common.{rules, ◌≡◌, ◌∙◌, ◌<◌, ap, refl, length, arith}
use Rattle.std.specs.Prelude.{is_some, max}
use Rattle.lsl_compact.specs.Stacks.{Noted}
use Rattle.lsl_code.specs.Effects.{behind}
use Rattle.lsl_code.specs.Kinds.{scope}
use Rattle.lsl_code.proofs.Passes.{can_step, front, pass_step}
use Rattle.lsl_code.proofs.finishing.pass_over.Goals as goal

pub step-requires : goal.step-requires
step-requires c =
    let s = scope c.args.names.now c.args.slots.now c.args.gives in
    let lt : c.loop-instr.instr-index < length c.args.code.now = omega arith in
    ap (λ (n : Noted). is_some (behind s c.instr-item.result n.kinds)) c.in_ok-note.ensures.noted
    ∙ can_step _ _ _ _ _ _ _ _ _ (front _ _ _ lt c.instr-item.is) c.loop-instr.invariant

pub loop-instr-preserved : goal.loop-instr-preserved
loop-instr-preserved c =
    let s = scope c.args.names.now c.args.slots.now c.args.gives in
    let noted = c.in_ok-note.ensures.noted in
    let lt : c.loop-instr.instr-index < length c.args.code.now = omega arith in
    let most : c.max-most.result ≡ max c.loop-instr.most (length c.loop-instr.stack.kinds) = search rules in
    let first = front _ _ _ lt c.instr-item.is in
    pass_step _ _ _ _ _ _ _ _ _ _ _ _ _ _ first c.loop-instr.invariant (c.in_ok-add_point.ensures c.args.gives) refl
    (c.in_ok-step.ensures.noted ∙ ap (λ (n : Noted). n.noted) noted) most
    (c.in_ok-step.ensures.kinds ∙ ap (λ (n : Noted). behind s c.instr-item.result n.kinds) noted)
