use Rattle.lsl_script.proofs.Rested.{rested_chained}
use Rattle.lsl_script.proofs.live.Live.pause.Goals as goal

pub pause-requires-clause-chained : goal.pause-requires-clause-chained
pause-requires-clause-chained c =
    rested_chained c.args.unit.now c.args.self.now c.requires.awake c.requires.stands
