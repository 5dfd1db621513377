use Rattle.std.proofs.Common.{◌≡◌, ◌∙◌, ap, subst, arith, ℕ, ◌<◌, ◌∷◌, length, reverse, take, drop}
use Rattle.lsl_value.specs.Values.{charge_of}
use Rattle.lsl_code.specs.Acts.{gives}
use Rattle.lsl_code.specs.Machine.{base, call_at}
use Rattle.lsl_machine.specs.Laid.{Lays}
use Rattle.lsl_machine.specs.Steps.{Does}
use Rattle.lsl_machine.proofs.Doing.{gives_lacks, able_held}
use Rattle.lsl_code.specs.declared.instructions.Instr.TheVariants as instrs
use Rattle.lsl_running.specs.Calling.{parameter_count}
use Rattle.lsl_pure.specs.Pure.{pure_of}
use Rattle.lsl_machine.proofs.Arguments.{pure_arguments}
use Rattle.lsl_machine.proofs.Parting.{too_big}
use Rattle.lsl_machine.proofs.running.Running.pure.Goals as goal

pub take_operands-requires : goal.take_operands-requires
take_operands-requires c = able_held (instrs.Pure c.args.id) _ c.requires

pub call-requires : goal.call-requires
call-requires c =
    let h = c.requires in
    let t = c.in-Ok.ensures.taken h.0 h.1 h.2 h.3 h.4 h.5 h.8 in
    let n : length c.as_slice.result.now ≡ parameter_count c.args.id =
    ap length (c.as_slice.ensures.value ∙ c.row.ensures.params) in
    pure_arguments h.6 c.args.id h.4 c.from_vec.result h.7 h.9.behind
    (c.from_vec.ensures ∙ t.0 ∙ ap {A = ℕ} (λ k. reverse (take k h.4)) n)

pub give-requires : goal.give-requires
give-requires c =
    let p = c.in-Ok.ensures.place in
    let r = c.requires.9.place in
    record { held = c.in-Ok.ensures.held; place = omega arith }

pub returns-in-Ok-call-clause-done : goal.returns-in-Ok-call-clause-done
returns-in-Ok-call-clause-done c bodies g f place sl ops outer h =
    let t = c.in-Ok.ensures.taken g f place sl ops outer h in
    let n : length c.as_slice.result.now ≡ parameter_count c.args.id =
    ap length (c.as_slice.ensures.value ∙ c.row.ensures.params) in
    let e = c.in-Ok-call.ensures.ok
    ∙ ap (pure_of c.args.id) (c.from_vec.ensures ∙ t.0 ∙ ap {A = ℕ} (λ k. reverse (take k ops)) n) in
    subst (λ w. Does (gives (base outer) sl (w ∷ drop (parameter_count c.args.id) ops) g) g f place sl outer
    c.give.result c.give.new.self) e
    (c.give.ensures.done g f place sl (drop (parameter_count c.args.id) ops) outer
    (subst (λ k. Lays c.take_operands.new.self g (call_at f place sl (drop k ops)) outer) n t.1))

pub returns-in-Err-TooBig-clause-done : goal.returns-in-Err-TooBig-clause-done
returns-in-Err-TooBig-clause-done c bodies g f place sl ops outer h =
    let t = c.in-Ok.ensures.taken g f place sl ops outer h in
    let n : length c.as_slice.result.now ≡ parameter_count c.args.id =
    ap length (c.as_slice.ensures.value ∙ c.row.ensures.params) in
    too_big g f place (pure_of c.args.id (reverse (take (parameter_count c.args.id) ops))) sl
    (drop (parameter_count c.args.id) ops) outer _ h.small
    (subst (λ l. 65536 < charge_of (pure_of c.args.id l))
    (c.from_vec.ensures ∙ t.0 ∙ ap {A = ℕ} (λ k. reverse (take k ops)) n)
    (c.in-Err-TooBig.ensures.too_big c.in-Err-TooBig.field-0-is))

pub returns-in-Err-NoMemory-clause-done : goal.returns-in-Err-NoMemory-clause-done
returns-in-Err-NoMemory-clause-done c bodies g f place sl ops outer h =
    gives_lacks g g f place sl sl
    (pure_of c.args.id (reverse (take (parameter_count c.args.id) ops)) ∷ drop (parameter_count c.args.id) ops)
    outer _
