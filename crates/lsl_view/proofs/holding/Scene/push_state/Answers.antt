use Rattle.lsl_view.proofs.Fitting.{calls-fit}
use Rattle.lsl_view.proofs.holding.Scene.push_state.Goals as goal

pub push_flight-requires : goal.push_flight-requires
push_flight-requires c = calls-fit c.args.unit.now c.args.script.now c.requires
