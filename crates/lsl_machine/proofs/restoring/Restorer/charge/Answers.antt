use Rattle.std.proofs.Common.{◌∙◌, ap, ◌+◌, min, drop}
use Rattle.lsl_running.specs.Charging.{charges_of}
use Rattle.lsl_machine.proofs.Waking.{charge_is}
use Rattle.lsl_machine.proofs.restoring.Restorer.charge.Goals as goal

pub returns : goal.returns
returns c bodies m outer p hand sack h =
    let above = c.above.ensures ∙ ap (drop c.args.self.now.active.base) c.as_slice.ensures.value in
    charge_is bodies c.args.self.now m outer p hand sack h c.saturating_add-held.result c.charged_with_values.result
    c.saturating_add-held.ensures
    (c.charged_with_values.ensures
    ∙ ap (λ l. min (c.saturating_add-held.result + charges_of l) 18446744073709551615) above)
