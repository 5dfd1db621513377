use Rattle.std.proofs.Common.{ap, subst, arith, ◌∷◌, slice_set}
use Rattle.lsl_value.specs.Values.{charge_of}
use Rattle.lsl_code.specs.Acts.{gives}
use Rattle.lsl_code.specs.Machine.{base}
use Rattle.lsl_machine.specs.Steps.{Does}
use Rattle.lsl_machine.proofs.Doing.{with_top, with_none, gives_same, gives_lacks, able_held}
use Rattle.lsl_code.specs.declared.instructions.Instr.TheVariants as instrs
use Rattle.lsl_machine.proofs.Sparing.{top_integer}
use Rattle.lsl_machine.proofs.running.Running.store.Goals as goal

pub pop-requires : goal.pop-requires
pop-requires c = able_held (instrs.Store c.args.n) _ c.requires

pub set_slot-requires : goal.set_slot-requires
set_slot-requires c =
    let e = ap charge_of c.in-Ok.ensures.same in
    let f = c.in-Some.ensures.fits in
    record { held = c.in-Some.ensures.held; charged = omega arith }

pub give-requires : goal.give-requires
give-requires c =
    let p = c.in-Some.ensures.place in
    let q = c.set_slot.ensures.place in
    let r = c.requires.9.place in
    record { held = c.set_slot.ensures.held; place = omega arith }

pub returns-in-Ok-clause-done : goal.returns-in-Ok-clause-done
returns-in-Ok-clause-done c bodies g f place sl ops outer h =
    with_top g f place sl ops outer _ _ _ _ _ (c.in-Some.ensures.popped g f place sl ops outer h)
    (λ rest k. gives_same g g f place (slice_set sl c.args.n c.in-Some.value) sl (c.in-Some.value ∷ rest) outer _ _
    (subst (λ w. Does (gives (base outer) (slice_set sl c.args.n w) (c.in-Some.value ∷ rest) g) g f place
    (slice_set sl c.args.n w) outer c.give.result c.give.new.self) c.in-Ok.ensures.same
    (c.give.ensures.done g f place (slice_set sl c.args.n c.in-Ok.copied) rest outer
    (c.set_slot.ensures.set g f place sl rest outer k))))

pub returns-in-Err-clause-done : goal.returns-in-Err-clause-done
returns-in-Err-clause-done c bodies g f place sl ops outer h =
    with_top g f place sl ops outer _ _ _ _ _ (c.in-Some.ensures.popped g f place sl ops outer h)
    (λ rest k. gives_lacks g g f place (slice_set sl c.args.n c.in-Some.value) sl (c.in-Some.value ∷ rest) outer _)

pub returns-in_default-clause-done : goal.returns-in_default-clause-done
returns-in_default-clause-done c bodies g f place sl ops outer h =
    with_none g f place sl ops outer _ _ _ (c.in_default.ensures.popped g f place sl ops outer h)

pub returns-in-Err-clause-memory : goal.returns-in-Err-clause-memory
returns-in-Err-clause-memory c g f place sl ops outer h free room e =
    let ok = c.in-Err.ensures.memory (top_integer g f place sl ops outer c.in-Some.value c.pop.new.self
    (c.in-Some.ensures.popped g f place sl ops outer h) free) in absurd cc
