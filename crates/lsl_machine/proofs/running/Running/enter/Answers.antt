use Rattle.std.proofs.Common.{map, ◌≡◌, ◌∙◌, refl, ap, arith, ℕ, ◌+◌, ◌-◌, [], ◌∷◌, ◌++◌, length, take, drop}
use Rattle.lsl_running.specs.Charging.{charges_of}
use Rattle.lsl_running.specs.Values.{empty_of}
use Rattle.lsl_code.specs.WovenBodies.{woven_body}
use Rattle.lsl_machine.specs.declared.running.Activation.{Activation}
use Rattle.lsl_machine.proofs.Doing.{able_held}
use Rattle.lsl_code.specs.declared.instructions.Instr.TheVariants as instrs
use Rattle.lsl_machine.proofs.Parting.{n_is, given_least, body_at, entered_over, entered_in, depth_is, no_body, entered_lost}
use Rattle.lsl_machine.proofs.Charges.{empties_most}
use Rattle.lsl_machine.proofs.running.Running.enter.Goals as goal

pub charges_of-given-requires : goal.charges_of-given-requires
charges_of-given-requires c =
    let h = c.requires 0 in
    let fn = woven_body c.index-functions-callee.result in
    let st = c.args.self.now.stack in
    let lenis : c.len.result ≡ length st.items = c.len.ensures ∙ st.ok.0 in
    let len2 : c.len-2.result ≡ length st.items = c.len-2.ensures ∙ st.ok.0 in
    let dep = depth_is c.args.self.now h.0 h.1 h.2 h.3 h.4 h.5 h.8 in
    let n : c.min.result ≡ length (take (length fn.params) h.4) =
    n_is c.len-3.result c.min.result (c.len.result - c.args.self.now.active.floor) h.4 (omega arith)
    c.min.ensures ∙ ap {A = ℕ} (λ k. length (take k h.4)) c.len-3.ensures in
    let above : c.above.result.now ≡ drop (length st.items - c.min.result) st.items =
    c.above.ensures ∙ ap {A = ℕ} (λ x. drop (x - c.min.result) c.as_slice.result.now) len2
    ∙ ap (drop (length st.items - c.min.result)) c.as_slice.ensures.value in
    let le = given_least c.args.self.now h.0 h.1 h.2 (length fn.params) c.min.result h.3 h.4 h.5 h.8 n in
    let a = le.0 in
    let b = le.1 in
    let q = ap charges_of above in
    omega arith

pub free-free-requires : goal.free-free-requires
free-free-requires c = able_held (instrs.Call c.args.callee 0) _ (c.requires 0)

pub overflow_sub-depth : goal.overflow_sub-depth
overflow_sub-depth c =
    let h = c.requires 0 in
    let st = c.args.self.now.stack in
    let lenis : c.len.result ≡ length st.items = c.len.ensures ∙ st.ok.0 in
    let dep = depth_is c.args.self.now h.0 h.1 h.2 h.3 h.4 h.5 h.8 in
    omega arith

pub empties_charge-more-requires : goal.empties_charge-more-requires
empties_charge-more-requires c =
    let h = c.requires 0 in
    let a = c.if-kinds-free.false in
    let f = c.free-free.ensures in
    let b = h.8.small in
    let d = h.8.limit in
    omega arith

pub overflow_add-caller : goal.overflow_add-caller
overflow_add-caller c = let r = (c.requires 0).9.place in omega arith

pub overflow_sub-caller : goal.overflow_sub-caller
overflow_sub-caller c =
    let h = c.requires 0 in
    let fn = woven_body c.index-functions-callee.result in
    let st = c.args.self.now.stack in
    let lenis : c.len.result ≡ length st.items = c.len.ensures ∙ st.ok.0 in
    let len2 : c.len-2.result ≡ length st.items = c.len-2.ensures ∙ st.ok.0 in
    let dep = depth_is c.args.self.now h.0 h.1 h.2 h.3 h.4 h.5 h.8 in
    let n : c.min.result ≡ length (take (length fn.params) h.4) =
    n_is c.len-3.result c.min.result (c.len.result - c.args.self.now.active.floor) h.4 (omega arith)
    c.min.ensures ∙ ap {A = ℕ} (λ k. length (take k h.4)) c.len-3.ensures in
    let above : c.above.result.now ≡ drop (length st.items - c.min.result) st.items =
    c.above.ensures ∙ ap {A = ℕ} (λ x. drop (x - c.min.result) c.as_slice.result.now) len2
    ∙ ap (drop (length st.items - c.min.result)) c.as_slice.ensures.value in
    let le = given_least c.args.self.now h.0 h.1 h.2 (length fn.params) c.min.result h.3 h.4 h.5 h.8 n in
    let a = le.0 in
    let b = le.1 in
    let q = ap charges_of above in
    let e = c.charges_of-given.ensures in
    omega arith

pub returns-then-callee-functions-clause-done : goal.returns-then-callee-functions-clause-done
returns-then-callee-functions-clause-done c point g f place sl ops outer h =
    entered_lost _ c.args.callee g f place sl ops outer _
    (no_body c.args.functions.now c.args.callee c.if-callee-functions.true)

pub returns-then-kinds-free-clause-done : goal.returns-then-kinds-free-clause-done
returns-then-kinds-free-clause-done c point g f place sl ops outer h =
    let fn = woven_body c.index-functions-callee.result in
    let kd : c.behind-kinds.result.now ≡ drop (length fn.params) fn.slots = c.behind-kinds.ensures
    ∙ ap {A = ℕ} (λ k. drop k c.as_slice-2.result.now) c.len-4.ensures
    ∙ ap (drop (length fn.params)) c.as_slice-2.ensures in
    let most = empties_most (drop (length fn.params) fn.slots) in
    let len = ap length kd in
    let lt = c.if-kinds-free.true in
    let free = c.free-free.ensures in
    entered_over c.args.self.now _ (map woven_body c.args.functions.now) fn c.args.callee
    (32 + charges_of (map empty_of (drop (length fn.params) fn.slots))) g f place sl ops outer h
    (body_at c.args.functions.now c.args.callee c.index-functions-callee.result c.if-callee-functions.false
    c.index-functions-callee.is) refl (omega arith)

pub returns-then-more-free-clause-done : goal.returns-then-more-free-clause-done
returns-then-more-free-clause-done c point g f place sl ops outer h =
    let fn = woven_body c.index-functions-callee.result in
    let kd : c.behind-kinds.result.now ≡ drop (length fn.params) fn.slots = c.behind-kinds.ensures
    ∙ ap {A = ℕ} (λ k. drop k c.as_slice-2.result.now) c.len-4.ensures
    ∙ ap (drop (length fn.params)) c.as_slice-2.ensures in
    let lt = c.if-more-free.true in
    let free = c.free-free.ensures in
    entered_over c.args.self.now _ (map woven_body c.args.functions.now) fn c.args.callee
    (32 + c.empties_charge-more.result) g f place sl ops outer h
    (body_at c.args.functions.now c.args.callee c.index-functions-callee.result c.if-callee-functions.false
    c.index-functions-callee.is)
    (ap {A = ℕ} (λ k. 32 + k) (c.empties_charge-more.ensures.value ∙ ap (λ l. charges_of (map empty_of l)) kd))
    (omega arith)

pub returns-clause-done : goal.returns-clause-done
returns-clause-done c point g f place sl ops outer h =
    let fn = woven_body c.index-functions-callee.result in
    let st = c.args.self.now.stack in
    let lenis : c.len.result ≡ length st.items = c.len.ensures ∙ st.ok.0 in
    let len2 : c.len-2.result ≡ length st.items = c.len-2.ensures ∙ st.ok.0 in
    let dep = depth_is c.args.self.now g f place sl ops outer h in
    let n : c.min.result ≡ length (take (length fn.params) ops) =
    n_is c.len-3.result c.min.result (c.len.result - c.args.self.now.active.floor) ops (omega arith)
    c.min.ensures ∙ ap {A = ℕ} (λ k. length (take k ops)) c.len-3.ensures in
    let above : c.above.result.now ≡ drop (length st.items - c.min.result) st.items =
    c.above.ensures ∙ ap {A = ℕ} (λ x. drop (x - c.min.result) c.as_slice.result.now) len2
    ∙ ap (drop (length st.items - c.min.result)) c.as_slice.ensures.value in
    let kd : c.behind-kinds.result.now ≡ drop (length fn.params) fn.slots = c.behind-kinds.ensures
    ∙ ap {A = ℕ} (λ k. drop k c.as_slice-2.result.now) c.len-4.ensures
    ∙ ap (drop (length fn.params)) c.as_slice-2.ensures in
    let lt = c.if-more-free.false in
    let free = c.free-free.ensures in
    let caller : Activation = record c.args.self.now.active {
      place = c.args.self.now.active.place + 1;
      charge = c.args.self.now.active.charge - c.charges_of-given.result;
    } in
    let pushed = c.push_reserved.ensures.items ∙ ap (λ l. l ++ caller ∷ []) c.reserve_more.ensures.items in
    entered_in c.args.self.now _ (map woven_body c.args.functions.now) fn c.args.callee
    (32 + c.empties_charge-more.result) c.charges_of-given.result c.min.result _ g f place sl ops outer h
    (body_at c.args.functions.now c.args.callee c.index-functions-callee.result c.if-callee-functions.false
    c.index-functions-callee.is)
    (ap {A = ℕ} (λ k. 32 + k) (c.empties_charge-more.ensures.value ∙ ap (λ l. charges_of (map empty_of l)) kd))
    (omega arith) n (c.in-Ok-push_empties.ensures.pushed ∙ ap (λ l. st.items ++ map empty_of l) kd) pushed refl
    (c.charges_of-given.ensures ∙ ap charges_of above)
    (ap {A = ℕ} {B = Activation}
    (λ x. record {
      function = c.args.callee;
      place = 0;
      base = x - c.min.result;
      floor =
          c.len-5.result;
      charge = c.args.self.now.active.charge + (32 + c.empties_charge-more.result);
    })
    len2 ∙ ap {A = ℕ} {B = Activation}
    (λ x. record {
      function = c.args.callee;
      place = 0;
      base = length st.items - c.min.result;
      floor =
          x;
      charge = c.args.self.now.active.charge + (32 + c.empties_charge-more.result);
    })
    (c.len-5.ensures ∙ c.push_empties.new.stack.ok.0)) refl refl refl
