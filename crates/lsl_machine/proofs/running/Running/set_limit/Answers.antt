use Rattle.std.proofs.Common.{◌≡◌, ◌∙◌, sym, ap, subst, arith, rules, w32, ◌+◌, ◌≤◌, ◌∷◌, Some, None}
use Rattle.std.proofs.lemmas.Int.{to_z-of_z}
use Rattle.lsl_running.specs.Charging.{hold_all, used}
use Rattle.lsl_running.specs.Limits.{granted, grant_value}
use Rattle.lsl_running.proofs.Granting.{granted_told}
use Rattle.lsl_code.specs.Acts.{gives_limit}
use Rattle.lsl_code.specs.Machine.{base}
use Rattle.lsl_code.specs.declared.instructions.Instr.TheVariants as instrs
use Rattle.lsl_machine.specs.Steps.{Does}
use Rattle.lsl_machine.proofs.Doing.{with_top, with_none, gives_same, able_held}
use Rattle.lsl_machine.proofs.Limiting.{limited, asked_limit}
use Rattle.lsl_machine.proofs.running.Running.set_limit.Goals as goal

pub pop-requires : goal.pop-requires
pop-requires c = able_held instrs.SetLimit _ c.requires

pub give-requires-clause-held : goal.give-requires-clause-held
give-requires-clause-held c =
    let k = c.in-Some.ensures.held in
    let r = c.pop.new.self in
    let limit = c.in-Some-granted_limit.limit in
    let asked = to_z-of_z w32 c.integer-asked.result (search rules) in
    let told = granted_told c.integer-asked.result (r.active.charge + r.global_charge) limit
    (ap (λ n. granted n (r.active.charge + r.global_charge)) (sym asked) ∙ sym c.in-Some-granted_limit.ensures) in
    let room : r.active.charge + r.global_charge + 8 ≤ limit = told.0 in
    let enough : r.active.charge + r.global_charge ≤ limit = omega arith in (
      record k.0 { limit = limit },
      k.1,
      k.2,
      k.3,
      k.4,
      k.5,
      limited r k.0 k.1 k.2 limit k.3 k.4 k.5 k.6 enough told.1,
    )

pub returns-in-Some-granted_limit-clause-done : goal.returns-in-Some-granted_limit-clause-done
returns-in-Some-granted_limit-clause-done c bodies g f place sl ops outer h =
    let r = c.pop.new.self in
    let q = c.give.new.self in
    let limit = c.in-Some-granted_limit.limit in
    let asked = to_z-of_z w32 c.integer-asked.result (search rules) in
    let got : granted c.integer-asked.result (r.active.charge + r.global_charge) ≡ Some limit =
    ap (λ n. granted n (r.active.charge + r.global_charge)) (sym asked) ∙ sym c.in-Some-granted_limit.ensures in
    let told = granted_told c.integer-asked.result (r.active.charge + r.global_charge) limit got in
    let room : r.active.charge + r.global_charge + 8 ≤ limit = told.0 in
    let enough : r.active.charge + r.global_charge ≤ limit = omega arith in
    with_top g f place sl ops outer _ _ _ _ _ (c.in-Some.ensures.popped g f place sl ops outer h)
    (λ rest k. subst (λ n. Does (gives_limit (granted n (used (hold_all (base outer) rest) sl g)) (base outer) sl
    rest g) g f place sl outer c.give.result q) c.integer-asked.ensures
    (asked_limit r q g f place sl rest outer c.give.result c.integer-asked.result (Some limit) k got
    (gives_same (record g { limit = limit }) g f place sl sl (grant_value (Some limit) ∷ rest) outer c.give.result q
    (c.give.ensures.done (record g { limit = limit }) f place sl rest outer
    (limited r g f place limit sl rest outer k enough told.1)))))

pub returns-in-None-clause-done : goal.returns-in-None-clause-done
returns-in-None-clause-done c bodies g f place sl ops outer h =
    let r = c.pop.new.self in
    let q = c.give-in-None.new.self in
    let asked = to_z-of_z w32 c.integer-asked.result (search rules) in
    let got : granted c.integer-asked.result (r.active.charge + r.global_charge) ≡ None =
    ap (λ n. granted n (r.active.charge + r.global_charge)) (sym asked) ∙ sym c.in-None.ensures in
    with_top g f place sl ops outer _ _ _ _ _ (c.in-Some.ensures.popped g f place sl ops outer h)
    (λ rest k. subst (λ n. Does (gives_limit (granted n (used (hold_all (base outer) rest) sl g)) (base outer) sl
    rest g) g f place sl outer c.give-in-None.result q) c.integer-asked.ensures
    (asked_limit r q g f place sl rest outer c.give-in-None.result c.integer-asked.result None k got
    (c.give-in-None.ensures.done g f place sl rest outer k)))

pub returns-in_default-clause-done : goal.returns-in_default-clause-done
returns-in_default-clause-done c bodies g f place sl ops outer h =
    with_none g f place sl ops outer _ _ _ (c.in_default.ensures.popped g f place sl ops outer h)
