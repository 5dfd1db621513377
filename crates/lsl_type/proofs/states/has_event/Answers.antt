use Rattle.std.proofs.Common.{◌∙◌}
use Rattle.lsl_type.proofs.HeaderWalks.{any_event}
use Rattle.lsl_type.proofs.states.has_event.Goals as goal

pub returns : goal.returns
returns c = c.contains.ensures.value ∙ any_event c.args.events.now c.args.event
