use Rattle.std.proofs.Common.{arith, slice_set}
use Rattle.lsl_machine.proofs.Doing.{with_top, with_none, able_held}
use Rattle.lsl_code.specs.declared.instructions.Instr.TheVariants as instrs
use Rattle.lsl_machine.proofs.running.Running.set.Goals as goal

pub pop-requires : goal.pop-requires
pop-requires c = able_held (instrs.Set c.args.n) _ c.requires

pub set_slot-requires : goal.set_slot-requires
set_slot-requires c = record { held = c.in-Some.ensures.held; charged = c.in-Some.ensures.fits }

pub fall_through-requires : goal.fall_through-requires
fall_through-requires c =
    let p = c.in-Some.ensures.place in
    let q = c.set_slot.ensures.place in
    let r = c.requires.9.place in
    omega arith

pub returns-clause-done : goal.returns-clause-done
returns-clause-done c bodies g f place sl ops outer h =
    with_top g f place sl ops outer _ _ _ _ _ (c.in-Some.ensures.popped g f place sl ops outer h)
    (λ rest k. c.fall_through.ensures.done g f place (slice_set sl c.args.n c.in-Some.value) rest outer
    (c.set_slot.ensures.set g f place sl rest outer k))

pub returns-in_default-clause-done : goal.returns-in_default-clause-done
returns-in_default-clause-done c bodies g f place sl ops outer h =
    with_none g f place sl ops outer _ _ _ (c.in_default.ensures.popped g f place sl ops outer h)
