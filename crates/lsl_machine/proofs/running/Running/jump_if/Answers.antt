use Rattle.std.proofs.Common.{◌≡◌, true, false}
use Rattle.lsl_machine.proofs.Doing.{with_top, with_none, branch_true, branch_false}
use Rattle.lsl_value.specs.Values.{truth_of}
use Rattle.lsl_machine.proofs.running.Running.jump_if.Goals as goal

pub returns-clause-done : goal.returns-clause-done
returns-clause-done c bodies g f place sl ops outer h =
    let a = c.truth-holds.ensures in
    let b = c.if-holds.false in
    let e : false ≡ truth_of c.in-Some.value = cc in
    with_top g f place sl ops outer _ _ _ _ _ (c.in-Some.ensures.popped g f place sl ops outer h)
    (λ rest k. branch_false (truth_of c.in-Some.value) _ _ g f place sl outer _ _ e
    (c.fall_through.ensures.done g f place sl rest outer k))

pub returns-then-holds-clause-done : goal.returns-then-holds-clause-done
returns-then-holds-clause-done c bodies g f place sl ops outer h =
    let a = c.truth-holds.ensures in
    let b = c.if-holds.true in
    let e : true ≡ truth_of c.in-Some.value = cc in
    with_top g f place sl ops outer _ _ _ _ _ (c.in-Some.ensures.popped g f place sl ops outer h)
    (λ rest k. branch_true (truth_of c.in-Some.value) _ _ g f place sl outer _ _ e
    (c.jump.ensures.done g f place sl rest outer k))

pub returns-in_default-clause-done : goal.returns-in_default-clause-done
returns-in_default-clause-done c bodies g f place sl ops outer h =
    with_none g f place sl ops outer _ _ _ (c.in_default.ensures.popped g f place sl ops outer h)
