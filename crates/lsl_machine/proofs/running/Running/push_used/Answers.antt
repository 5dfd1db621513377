use Rattle.std.proofs.Common.{◌≡◌, ◌∙◌, refl, ap, subst, arith, ◌+◌, ◌∷◌}
use Rattle.lsl_running.specs.Charging.{call_charge, charges_of, hold_all, used}
use Rattle.lsl_code.specs.Acts.{gives}
use Rattle.lsl_code.specs.Machine.{base}
use Rattle.lsl_machine.specs.Steps.{Does}
use Rattle.lsl_machine.proofs.Laying.{charge_within}
use Rattle.lsl_machine.proofs.Doing.{able_held}
use Rattle.lsl_code.specs.declared.instructions.Instr.TheVariants as instrs
use Rattle.lsl_value.specs.declared.tagged.Value.TheVariants as value
use Rattle.std.proofs.Common.{pos}
use Rattle.lsl_machine.proofs.running.Running.push_used.Goals as goal

pub give-requires : goal.give-requires
give-requires c = record { held = able_held instrs.Used _ c.requires; place = c.requires.9.place }

pub number-requires : goal.number-requires
number-requires c =
    let h = c.requires in
    let a = charge_within c.args.self.now h.0 h.1 h.2 h.3 h.4 h.5 h.8 in
    let b = h.8.small in
    let d = h.8.limit in
    omega arith

pub returns-clause-done : goal.returns-clause-done
returns-clause-done c bodies g f place sl ops outer h =
    let a : c.args.self.now.active.charge ≡ hold_all (base outer) ops + call_charge + charges_of sl =
    ap (λ x. x.charge) h.active in
    let b = h.global_charge in
    let d = h.limit in
    let u : used (hold_all (base outer) ops) sl g ≡ hold_all (base outer) ops + call_charge + charges_of sl +
    charges_of g.globals = refl in
    let e : c.args.self.now.active.charge + c.args.self.now.global_charge ≡ used (hold_all (base outer) ops) sl g =
    omega arith in
    subst (λ w. Does (gives (base outer) sl (w ∷ ops) g) g f place sl outer c.give.result c.give.new.self)
    (c.number.ensures ∙ ap (λ k. value.Int (pos k)) e) (c.give.ensures.done g f place sl ops outer h)
