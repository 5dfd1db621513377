use Rattle.std.proofs.Common.{subst, arith, ◌∷◌}
use Rattle.lsl_code.specs.Acts.{gives}
use Rattle.lsl_code.specs.Machine.{base}
use Rattle.lsl_machine.specs.Steps.{Does}
use Rattle.lsl_machine.proofs.Doing.{with_top, with_none, gives_lacks, able_held}
use Rattle.lsl_code.specs.declared.instructions.Instr.TheVariants as instrs
use Rattle.lsl_ops.specs.Operations.{cast_of}
use Rattle.lsl_machine.proofs.Arguments.{cast_row}
use Rattle.lsl_machine.proofs.running.Running.cast.Goals as goal

pub pop-requires : goal.pop-requires
pop-requires c = able_held (instrs.Cast c.args.kind) _ c.requires

pub cast-requires : goal.cast-requires
cast-requires c =
    let h = c.requires in
    record {
      row = cast_row h.6 c.args.kind c.in-Some.value h.0 h.1 h.2 h.3 h.4 h.5 h.7 c.pop.new.self h.9.behind
          (c.in-Some.ensures.popped h.0 h.1 h.2 h.3 h.4 h.5 h.8);
      charged = c.in-Some.ensures.small;
    }

pub give-requires : goal.give-requires
give-requires c =
    let p = c.in-Some.ensures.place in
    let r = c.requires.9.place in
    record { held = c.in-Some.ensures.held; place = omega arith }

pub returns-in-Ok-clause-done : goal.returns-in-Ok-clause-done
returns-in-Ok-clause-done c bodies g f place sl ops outer h =
    with_top g f place sl ops outer _ _ _ _ _ (c.in-Some.ensures.popped g f place sl ops outer h)
    (λ rest k. subst (λ w. Does (gives (base outer) sl (w ∷ rest) g) g f place sl outer c.give.result
    c.give.new.self) c.in-Ok.ensures.ok (c.give.ensures.done g f place sl rest outer k))

pub returns-in-Err-clause-done : goal.returns-in-Err-clause-done
returns-in-Err-clause-done c bodies g f place sl ops outer h =
    with_top g f place sl ops outer _ _ _ _ _ (c.in-Some.ensures.popped g f place sl ops outer h)
    (λ rest k. gives_lacks g g f place sl sl (cast_of c.in-Some.value c.args.kind ∷ rest) outer _)

pub returns-in_default-clause-done : goal.returns-in_default-clause-done
returns-in_default-clause-done c bodies g f place sl ops outer h =
    with_none g f place sl ops outer _ _ _ (c.in_default.ensures.popped g f place sl ops outer h)
