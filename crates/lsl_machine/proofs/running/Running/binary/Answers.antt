use Rattle.std.proofs.Common.{ap, arith}
use Rattle.lsl_machine.proofs.Doing.{with_top, with_none, able_held, math_gives, math_fails}
use Rattle.lsl_code.specs.declared.instructions.Instr.TheVariants as instrs
use Rattle.std.proofs.Common.{Err}
use Rattle.lsl_machine.proofs.Arguments.{binary_row}
use Rattle.lsl_machine.proofs.Sparing.{top_integers, integers_spare}
use Rattle.lsl_machine.proofs.running.Running.binary.Goals as goal

pub pop-requires : goal.pop-requires
pop-requires c = able_held (instrs.Binary c.args.op) _ c.requires

pub binary-requires : goal.binary-requires
binary-requires c =
    let h = c.requires in
    record {
      row = binary_row h.6 c.args.op c.in-Some.left c.in-Some-pop.right h.0 h.1 h.2 h.3 h.4 h.5 h.7
          c.pop.new.self c.pop-2.new.self h.9.behind (c.in-Some.ensures.popped h.0 h.1 h.2 h.3 h.4 h.5 h.8)
          (λ rest k. c.in-Some-pop.ensures.popped h.0 h.1 h.2 h.3 rest h.5 k);
      left = c.in-Some.ensures.small;
      right =
          c.in-Some-pop.ensures.small;
    }

pub give-requires : goal.give-requires
give-requires c =
    let p = c.in-Some.ensures.place in
    let r = c.requires.9.place in
    let q = c.in-Some-pop.ensures.place in
    record { held = c.in-Some-pop.ensures.held; place = omega arith }

pub returns-in-Ok-clause-done : goal.returns-in-Ok-clause-done
returns-in-Ok-clause-done c bodies g f place sl ops outer h =
    with_top g f place sl ops outer _ _ _ _ _ (c.in-Some.ensures.popped g f place sl ops outer h)
    (λ more j. with_top g f place sl more outer _ _ _ _ _ (c.in-Some-pop.ensures.popped g f place sl more outer j)
    (λ rest k. math_gives c.args.op c.in-Some.left c.in-Some-pop.right c.in-Ok.value g f place sl rest outer _ _
    c.in-Ok.ensures.ok c.in-Ok.ensures.math_error (c.give.ensures.done g f place sl rest outer k)))

pub returns-in-Err-MathError-clause-done : goal.returns-in-Err-MathError-clause-done
returns-in-Err-MathError-clause-done c bodies g f place sl ops outer h =
    with_top g f place sl ops outer _ _ _ _ _ (c.in-Some.ensures.popped g f place sl ops outer h)
    (λ more j. with_top g f place sl more outer _ _ _ _ _ (c.in-Some-pop.ensures.popped g f place sl more outer j)
    (λ rest k. math_fails c.args.op c.in-Some.left c.in-Some-pop.right g f place sl rest outer _
    (c.in-Err-MathError.ensures.math_error.0 (ap Err c.in-Err-MathError.field-0-is))))

pub returns-in_default-pop-clause-done : goal.returns-in_default-pop-clause-done
returns-in_default-pop-clause-done c bodies g f place sl ops outer h =
    with_top g f place sl ops outer _ _ _ _ _ (c.in-Some.ensures.popped g f place sl ops outer h)
    (λ more j. with_none g f place sl more outer _ _ _ (c.in_default-pop.ensures.popped g f place sl more outer j))

pub returns-in_default-clause-done : goal.returns-in_default-clause-done
returns-in_default-clause-done c bodies g f place sl ops outer h =
    with_none g f place sl ops outer _ _ _ (c.in_default.ensures.popped g f place sl ops outer h)

pub returns-in-Err-NoMemory-clause-memory : goal.returns-in-Err-NoMemory-clause-memory
returns-in-Err-NoMemory-clause-memory c g f place sl ops outer h free room e =
    integers_spare c.args.op c.in-Some.left c.in-Some-pop.right
    (top_integers g f place sl ops outer c.in-Some.left c.in-Some-pop.right c.pop.new.self c.pop-2.new.self
    (c.in-Some.ensures.popped g f place sl ops outer h)
    (λ rest k. c.in-Some-pop.ensures.popped g f place sl rest outer k) free)
    (c.in-Err-NoMemory.ensures.memory (ap Err c.in-Err-NoMemory.field-0-is))
