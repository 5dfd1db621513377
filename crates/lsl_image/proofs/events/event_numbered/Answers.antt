use Rattle.std.proofs.Common.{◌∙◌, ◌-◌, sym, arith}
use Rattle.lsl_image.proofs.EventLemmas.{numbered_as}
use Rattle.lsl_image.proofs.events.event_numbered.Goals as goal

pub returns : goal.returns
returns c = c.event_at.ensures ∙ sym (numbered_as c.args.number (c.args.number - 1) (omega arith))
