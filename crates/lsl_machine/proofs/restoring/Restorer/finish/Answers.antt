use Rattle.std.proofs.Common.{◌∙◌, refl, ap, ◌+◌, min}
use Rattle.lsl_running.specs.Charging.{charges_of}
use Rattle.lsl_machine.proofs.Waking.{finished}
use Rattle.lsl_machine.proofs.restoring.Restorer.finish.Goals as goal

pub returns-clause-lays : goal.returns-clause-lays
returns-clause-lays c bodies m outer p hand sack h small within =
    finished bodies c.args.self _ m outer p hand sack c.args.kept c.charge-charge.result
    c.charged_with_values-global_charge.result h small within (c.charge-charge.ensures bodies m outer p hand sack h)
    (c.charged_with_values-global_charge.ensures
    ∙ ap (λ l. min (0 + charges_of l) 18446744073709551615) (c.as_slice.ensures.value ∙ c.into_vec-globals.ensures))
    refl refl refl c.into_vec-globals.ensures refl refl
