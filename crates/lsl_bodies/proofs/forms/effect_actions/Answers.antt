use Rattle.std.proofs.Common.{sym, ap, ◌∙◌}
use Rattle.lsl_tree.specs.declared.program_action.Action.TheVariants as action
use Rattle.lsl_tree.specs.Actions.{Actions, AndAction, NoAction, action_of, actions_of}
use Rattle.lsl_tree.proofs.ProgramRows.{actions_of-append}
use Rattle.lsl_bodies.proofs.BlockWalks.{effects_after-push}
use Rattle.lsl_bodies.proofs.forms.effect_actions.Goals as goal

pub loop-effect-preserved : goal.loop-effect-preserved
loop-effect-preserved c =
    ap actions_of c.in_ok-push.ensures.items
    ∙ (actions_of-append c.loop-effect.actions.items _
    ∙ (ap (λ (a : Actions). AndAction a (action_of (action.Effect c.in-Some.effect))) c.loop-effect.invariant
    ∙ sym (effects_after-push NoAction c.loop-effect.yielded
    c.in-Some.effect)))
