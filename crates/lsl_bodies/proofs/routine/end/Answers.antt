use Rattle.std.proofs.Common.{Option, sym, ap, ◌∙◌}
use Rattle.lsl_value.specs.declared.tagged.Kind.{Kind}
use Rattle.lsl_tree.specs.Nodes.{Node}
use Rattle.lsl_tree.specs.Actions as action
use Rattle.lsl_tree.specs.Actions.{AndAction, actions_of}
use Rattle.lsl_bodies.specs.ActionForms.{ended}
use Rattle.lsl_tree.proofs.ProgramRows.{actions_of-append}
use Rattle.lsl_bodies.proofs.routine.end.Goals as goal

pub returns-in_ok-push : goal.returns-in_ok-push
returns-in_ok-push c =
    let before = actions_of c.args.body.now.items in
    ap actions_of c.in_ok-push.ensures.items
    ∙ (actions_of-append c.args.body.now.items _
    ∙ (ap (λ (n : Node). AndAction before (action.ReturnValue n)) c.in_ok-empty_node.ensures
    ∙ sym (ap (λ (o : Option Kind). ended o before) c.in-Some.is)))
