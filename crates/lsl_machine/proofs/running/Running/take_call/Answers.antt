use Rattle.std.proofs.Common.{◌≡◌, ◌∙◌, ap, subst, sym, ℕ, length, reverse, take, drop}
use Rattle.lsl_code.specs.Machine.{call_at}
use Rattle.lsl_running.specs.Calling.{parameter_count}
use Rattle.lsl_machine.specs.declared.running.Running.{Running}
use Rattle.lsl_machine.specs.Laid.{Lays}
use Rattle.lsl_machine.proofs.CallRooms.{made_of, spared}
use Rattle.lsl_machine.proofs.running.Running.take_call.Goals as goal
use Rattle.lsl_machine.proofs.running.Running.take_call.Goals.{then-count-eq1+in_default, else-count-eq1}

pub returns-clause-taken : goal.returns-clause-taken
returns-clause-taken c g f place sl ops outer h =
    let call = call_at f place sl ops in
    let n : length c.as_slice-count.result.now ≡ parameter_count c.args.id =
    ap length (c.as_slice-count.ensures.value ∙ c.row.ensures.params) in
    let lies : Lays c.if-count-eq1.self g call outer = elim c.if-count-eq1.branch [
      | then-count-eq1+in_default w ↦ subst (λ (r : Running). Lays r g call outer) (sym w.self-is)
          (spared c.args.self.now _ g call outer h)
      | else-count-eq1 w ↦ subst (λ (r : Running). Lays r g call outer) (sym w.self-is) h
    ] in
    let t = c.in_ok-args.ensures.taken g f place sl ops outer lies in
    made_of c.new.result c.in_ok-args.args.items _ _ c.new.ensures.args
    (t.0 ∙ ap {A = ℕ} (λ k. reverse (take k ops)) n)
    (subst (λ k. Lays c.take_operands.new.self g (call_at f place sl (drop k ops)) outer) n t.1)
