use Rattle.std.proofs.Common.{refl}
use Rattle.lsl_script.proofs.Mail.{stays_awake}
use Rattle.tests_world.proofs.hosting.set_timer.Goals as goal

pub returns : goal.returns
returns c = record {
  awake = λ unit a. (stays_awake unit c.args.live.now a).1 c.set.new.self;
  machine = refl;
}
