use Rattle.std.proofs.Common.{subst, arith, ◌∷◌}
use Rattle.lsl_code.specs.Acts.{gives}
use Rattle.lsl_code.specs.Machine.{base}
use Rattle.lsl_machine.specs.Steps.{Does}
use Rattle.lsl_machine.proofs.Doing.{with_top, with_none, able_held}
use Rattle.lsl_code.specs.declared.instructions.Instr.TheVariants as instrs
use Rattle.lsl_machine.proofs.running.Running.unary.Goals as goal

pub pop-requires : goal.pop-requires
pop-requires c = able_held (instrs.Unary c.args.op) _ c.requires

pub give-requires : goal.give-requires
give-requires c =
    let p = c.in-Some.ensures.place in
    let r = c.requires.9.place in
    record { held = c.in-Some.ensures.held; place = omega arith }

pub returns-clause-done : goal.returns-clause-done
returns-clause-done c bodies g f place sl ops outer h =
    with_top g f place sl ops outer _ _ _ _ _ (c.in-Some.ensures.popped g f place sl ops outer h)
    (λ rest k. subst (λ w. Does (gives (base outer) sl (w ∷ rest) g) g f place sl outer c.give.result
    c.give.new.self) c.unary_value.ensures (c.give.ensures.done g f place sl rest outer k))

pub returns-in_default-clause-done : goal.returns-in_default-clause-done
returns-in_default-clause-done c bodies g f place sl ops outer h =
    with_none g f place sl ops outer _ _ _ (c.in_default.ensures.popped g f place sl ops outer h)
