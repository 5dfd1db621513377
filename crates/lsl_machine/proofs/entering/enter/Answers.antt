use Rattle.std.proofs.Common.{map, ◌≡◌, ◌∙◌, refl, sym, ap, subst, ℕ, ◌+◌, ◌++◌, length, drop}
use Rattle.lsl_running.specs.Charging.{charges_of}
use Rattle.lsl_running.specs.Values.{empty_of}
use Rattle.lsl_code.specs.Acts.{first_slots}
use Rattle.lsl_code.specs.WovenBodies.{woven_body}
use Rattle.lsl_machine.specs.declared.running.Activation.{Activation}
use Rattle.lsl_machine.specs.declared.running.Running.{Running}
use Rattle.lsl_machine.specs.Entry.{Begins}
use Rattle.lsl_machine.proofs.Beginning.{begins, bodies_same}
use Rattle.std.proofs.Common.{min, None}
use Rattle.lsl_machine.proofs.entering.enter.Goals as goal

pub returns-clause-begun : goal.returns-clause-begun
returns-clause-begun c body there =
    let fn = woven_body c.index-as_slice-handler.result in
    let args = c.args.args in
    let same : fn ≡ body = bodies_same c.args.unit.now.functions c.as_slice.result.now c.args.handler
    c.index-as_slice-handler.result body c.as_slice.ensures c.index-as_slice-handler.is there in
    let r : Running = record {
      alloc = c.args.alloc;
      globals = c.into_vec-globals.result;
      global_charge =
          c.charged_with_values-global_charge.result;
      limit = c.args.limit;
      active =
          record {
            function = c.args.handler;
            place = 0;
            base = 0;
            floor = c.len-2.result;
            charge =
                c.charged_with_values-charge.result;
          };
      callers = c.new.result;
      stack = c.push_empties.new.stack;
      spare = None;
    } in
    let kinds : c.behind-kinds.result.now ≡ drop (length fn.params) fn.slots = c.behind-kinds.ensures
    ∙ ap {A = ℕ} (λ k. drop k c.as_slice-2.result.now) c.len.ensures
    ∙ ap (drop (length fn.params)) c.as_slice-2.ensures in
    let slots : c.push_empties.new.stack.items ≡ first_slots body args =
    c.in_ok-push_empties.ensures.pushed ∙ ap (λ l. l ++ map empty_of c.behind-kinds.result.now) c.into_vec-stack.ensures
    ∙ ap (λ l. args ++ map empty_of l) kinds ∙ ap (λ b. first_slots b args) same in
    let c1 = c.charged_with_values-charge.ensures
    ∙ ap {A = ℕ} (λ x. min (1056 + x) 18446744073709551615)
    (ap charges_of (c.as_slice-3.ensures.value ∙ slots)) in
    let c2 = c.charged_with_values-global_charge.ensures
    ∙ ap {A = ℕ} (λ x. min (0 + x) 18446744073709551615)
    (ap charges_of (c.as_slice-4.ensures.value ∙ c.into_vec-globals.ensures)) in
    let floor : c.len-2.result ≡ length (first_slots body args) = c.len-2.ensures ∙ c.push_empties.new.stack.ok.0
    ∙ ap length slots in
    subst (λ s. Begins c.args.handler c.args.globals c.args.limit (first_slots body args) r s)
    (sym c.standing_within.ensures)
    (begins r c.args.handler c.args.limit c.charged_with_values-charge.result c.charged_with_values-global_charge.result
    c.args.globals (first_slots body args) c.requires.limit c1 c2 slots c.new.ensures.items
    c.into_vec-globals.ensures refl refl
    (ap {A = ℕ} {B = Activation}
    (λ x. record {
      function = c.args.handler;
      place = 0;
      base = 0;
      floor = x;
      charge =
          c.charged_with_values-charge.result;
    }) floor))
