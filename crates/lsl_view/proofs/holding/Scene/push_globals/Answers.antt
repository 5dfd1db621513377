use Rattle.lsl_view.proofs.Stepping.{none-shown}
use Rattle.lsl_view.proofs.holding.Scene.push_globals.Goals as goal

pub returns-in-None : goal.returns-in-None
returns-in-None c =
    none-shown c.args.self.now.names.now.globals c.args.script.now.unit c.args.script.now.globals
    c.args.out.now.items c.in-None.ensures
