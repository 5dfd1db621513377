use Rattle.std.proofs.Common.{◌≡◌, ◌∙◌, ap, subst, arith, pos, ◌∷◌}
use Rattle.lsl_code.specs.Acts.{gives}
use Rattle.lsl_code.specs.Machine.{base}
use Rattle.lsl_code.specs.declared.instructions.Instr.TheVariants as instrs
use Rattle.lsl_machine.specs.Steps.{Does}
use Rattle.lsl_machine.proofs.Doing.{able_held}
use Rattle.lsl_value.specs.declared.tagged.Value.TheVariants as value
use Rattle.lsl_machine.proofs.running.Running.give_limit.Goals as goal

pub give-requires : goal.give-requires
give-requires c = record { held = able_held instrs.GetLimit _ c.requires; place = c.requires.9.place }

pub number-requires : goal.number-requires
number-requires c =
    let b = c.requires.8.small in
    let d = c.requires.8.limit in
    omega arith

pub returns-clause-done : goal.returns-clause-done
returns-clause-done c bodies g f place sl ops outer h =
    let d = h.limit in
    let q = c.from-limit.ensures in
    let e : c.from-limit.result ≡ g.limit = omega arith in
    subst (λ w. Does (gives (base outer) sl (w ∷ ops) g) g f place sl outer c.give.result c.give.new.self)
    (c.number.ensures ∙ ap (λ k. value.Int (pos k)) e) (c.give.ensures.done g f place sl ops outer h)
