use Rattle.std.proofs.Common.{◌<◌, length, arith, ap, ◌∙◌}
use Rattle.lsl_tree.specs.Program.{initial_of}
use Rattle.lsl_meaning.specs.Globals.{initial_value_of}
use Rattle.lsl_gen.proofs.GlobalSteps.{global_step}
use Rattle.lsl_gen.proofs.globals.initial_values.Goals as goal

pub loop-initial-preserved : goal.loop-initial-preserved
loop-initial-preserved c =
    let lt : c.loop-initial.initial-index < length c.args.initials.now = omega arith in
    global_step _ _ _ _ _ _ _ lt c.initial-item.is c.loop-initial.invariant
    (c.in_ok-value.ensures ∙ ap (λ before. initial_value_of before (initial_of c.initial-item.result))
    c.as_slice.ensures) c.in_ok-push.ensures.ok
