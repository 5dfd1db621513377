use Rattle.std.proofs.lemmas.Result.{on_ok_weaker}
use Rattle.lsl_seek.specs.Moments.{seen}
use Rattle.lsl_seek.proofs.Watching.{came}
use Rattle.lsl_seek.proofs.watch.Watch.come.Goals as goal

pub returns-in-Outside : goal.returns-in-Outside
returns-in-Outside c = on_ok_weaker c.enter.result (λ inner past h. came c.args.aim.now c.in-Outside.field-0 c.in-Outside.call c.args.self.now c.enter.new.self (seen c.args.moment.now) past c.in-Outside.is c.enter.ensures.stop c.enter.ensures.taken c.enter.ensures.before (inner past) h) c.enter.ensures.inner
