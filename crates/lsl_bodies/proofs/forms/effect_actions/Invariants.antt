use Rattle.std.proofs.Common.{◌≡◌}
use Rattle.std.specs.Prelude.{map}
use Rattle.lsl_tree.specs.Actions.{actions_of, NoAction}
use Rattle.lsl_tree.specs.Effects.{effect_of}
use Rattle.lsl_bodies.specs.ActionForms.{effects_after}
use Rattle.lsl_bodies.proofs.forms.effect_actions.Given as goal

abbrev pub invariant-loop-effect : goal.invariant-loop-effect
invariant-loop-effect l = actions_of l.actions.items
    ≡ effects_after NoAction (map effect_of l.yielded)
