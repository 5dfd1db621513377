use Rattle.lsl_machine.proofs.Doing.{with_top, with_none}
use Rattle.lsl_machine.proofs.running.Running.drop_top.Goals as goal

pub returns-clause-done : goal.returns-clause-done
returns-clause-done c bodies g f place sl ops outer h =
    with_top g f place sl ops outer _ _ _ _ _ (c.in-Some.ensures.popped g f place sl ops outer h)
    (λ rest k. c.fall_through.ensures.done g f place sl rest outer k)

pub returns-in_default-clause-done : goal.returns-in_default-clause-done
returns-in_default-clause-done c bodies g f place sl ops outer h =
    with_none g f place sl ops outer _ _ _ (c.in_default.ensures.popped g f place sl ops outer h)
