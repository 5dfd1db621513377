use Rattle.lsl_view.proofs.Stepping.{can-leave}
use Rattle.lsl_view.proofs.holding.Scene.push_standing.Goals as goal

pub push_leaving-requires : goal.push_leaving-requires
push_leaving-requires c =
    can-leave c.args.unit.now.states c.args.script.now.state c.args.script.now.leaving c.requires.states.leaves
