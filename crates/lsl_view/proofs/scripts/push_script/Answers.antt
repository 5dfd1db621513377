use Rattle.lsl_view.proofs.Fitting.{calls-fit}
use Rattle.lsl_view.proofs.scripts.push_script.Goals as goal

pub push_calls_of-requires : goal.push_calls_of-requires
push_calls_of-requires c = calls-fit c.args.unit.now c.args.script.now c.requires
