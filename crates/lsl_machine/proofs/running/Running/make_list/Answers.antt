use Rattle.std.proofs.Common.{◌∙◌, ap, subst, arith, ◌∷◌, reverse, take, drop}
use Rattle.lsl_running.specs.Charging.{charges_of}
use Rattle.lsl_code.specs.Acts.{gives}
use Rattle.lsl_code.specs.Machine.{base}
use Rattle.lsl_machine.specs.Steps.{Does}
use Rattle.lsl_machine.proofs.Doing.{gives_lacks, able_held}
use Rattle.lsl_code.specs.declared.instructions.Instr.TheVariants as instrs
use Rattle.lsl_value.specs.declared.tagged.Value.TheVariants as value
use Rattle.lsl_running.specs.Values.{list_value}
use Rattle.lsl_ops.specs.Operations.{atoms_of}
use Rattle.std.specs.List.{flat_map}
use Rattle.lsl_machine.proofs.running.Running.make_list.Goals as goal

pub take_operands-requires : goal.take_operands-requires
take_operands-requires c = able_held (instrs.MakeList c.args.count) _ c.requires

pub list_of-requires : goal.list_of-requires
list_of-requires c = let e = ap charges_of c.as_slice.ensures.value in let s = c.in-Ok.ensures.small in omega arith

pub give-requires : goal.give-requires
give-requires c =
    let p = c.in-Ok.ensures.place in
    let r = c.requires.9.place in
    record { held = c.in-Ok.ensures.held; place = omega arith }

pub returns-in-Ok-list_of-clause-done : goal.returns-in-Ok-list_of-clause-done
returns-in-Ok-list_of-clause-done c bodies g f place sl ops outer h =
    let t = c.in-Ok.ensures.taken g f place sl ops outer h in
    subst (λ w. Does (gives (base outer) sl (w ∷ drop c.args.count ops) g) g f place sl outer c.give.result
    c.give.new.self)
    (ap value.List (c.in-Ok-list_of.ensures ∙ ap (flat_map atoms_of) (c.as_slice.ensures.value ∙ t.0)))
    (c.give.ensures.done g f place sl (drop c.args.count ops) outer t.1)

pub returns-in_default-clause-done : goal.returns-in_default-clause-done
returns-in_default-clause-done c bodies g f place sl ops outer h =
    gives_lacks g g f place sl sl (list_value (reverse (take c.args.count ops)) ∷ drop c.args.count ops) outer _
