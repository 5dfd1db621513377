use Rattle.tests_world.proofs.Stopping.{stands_at}
use Rattle.tests_world.proofs.hosting.to_stop.Goals as goal

pub loop-at-init : goal.loop-at-init
loop-at-init c = record {
  awake = c.go-turn.ensures.awake;
  stands = stands_at c.args.unit.now c.go-turn.result c.go-turn.new.self c.go-turn.ensures.stands;
}
