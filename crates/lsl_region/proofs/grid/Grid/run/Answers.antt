use Rattle.lsl_region.proofs.PausedTurns.{paused-empty}
use Rattle.lsl_region.proofs.Results.{OnOk-any}
use Rattle.lsl_region.proofs.grid.Grid.run.Goals as goal

pub returns-else-is_on-clause-counted : goal.returns-else-is_on-clause-counted
returns-else-is_on-clause-counted c = λ m w t st k.
    OnOk-any c.segments.result _
    (paused-empty m.rules c.args.scene.now.place _ w c.args.pause.now t (c.is_on.ensures c.if-is_on.false) k)
