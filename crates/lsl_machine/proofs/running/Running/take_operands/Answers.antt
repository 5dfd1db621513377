use Rattle.std.proofs.Common.{◌≡◌, ◌∙◌, refl, ap, arith, ℕ, ◌-◌, length, take, drop}
use Rattle.lsl_running.specs.Charging.{charges_of}
use Rattle.lsl_machine.proofs.Parting.{n_is, given_least, depth_is, taken_lays, taken_items}
use Rattle.lsl_machine.proofs.running.Running.take_operands.Goals as goal

pub charges_of-requires : goal.charges_of-requires
charges_of-requires c =
    let h = c.requires in
    let st = c.args.self.now.stack in
    let lenis : c.len.result ≡ length st.items = c.len.ensures ∙ st.ok.0 in
    let len2 : c.len-2.result ≡ length st.items = c.len-2.ensures ∙ st.ok.0 in
    let dep = depth_is c.args.self.now h.0 h.1 h.2 h.3 h.4 h.5 h.6 in
    let n = n_is c.args.count c.min.result (c.len.result - c.args.self.now.active.floor) h.4 (omega arith)
    c.min.ensures in
    let vals : c.as_slice.result.now ≡ drop (c.len-2.result - c.min.result) st.items = c.as_slice.ensures.value
    ∙ c.in_ok-values.ensures.tail in
    let le = given_least c.args.self.now h.0 h.1 h.2 c.args.count c.min.result h.3 h.4 h.5 h.6 n in
    let a = le.0 in
    let b = le.1 in
    let d = ap charges_of (vals ∙ ap {A = ℕ} (λ x. drop (x - c.min.result) st.items) len2) in
    omega arith

pub overflow_sub-self : goal.overflow_sub-self
overflow_sub-self c =
    let h = c.requires in
    let st = c.args.self.now.stack in
    let lenis : c.len.result ≡ length st.items = c.len.ensures ∙ st.ok.0 in
    let len2 : c.len-2.result ≡ length st.items = c.len-2.ensures ∙ st.ok.0 in
    let dep = depth_is c.args.self.now h.0 h.1 h.2 h.3 h.4 h.5 h.6 in
    let n = n_is c.args.count c.min.result (c.len.result - c.args.self.now.active.floor) h.4 (omega arith)
    c.min.ensures in
    let vals : c.as_slice.result.now ≡ drop (c.len-2.result - c.min.result) st.items = c.as_slice.ensures.value
    ∙ c.in_ok-values.ensures.tail in
    let le = given_least c.args.self.now h.0 h.1 h.2 c.args.count c.min.result h.3 h.4 h.5 h.6 n in
    let a = le.0 in
    let b = le.1 in
    let d = ap charges_of (vals ∙ ap {A = ℕ} (λ x. drop (x - c.min.result) st.items) len2) in
    let e = c.charges_of.ensures in
    omega arith

pub returns-clause-taken : goal.returns-clause-taken
returns-clause-taken c g f place sl ops outer h =
    let st = c.args.self.now.stack in
    let lenis : c.len.result ≡ length st.items = c.len.ensures ∙ st.ok.0 in
    let len2 : c.len-2.result ≡ length st.items = c.len-2.ensures ∙ st.ok.0 in
    let dep = depth_is c.args.self.now g f place sl ops outer h in
    let n = n_is c.args.count c.min.result (c.len.result - c.args.self.now.active.floor) ops (omega arith)
    c.min.ensures in
    let vals : c.as_slice.result.now ≡ drop (c.len-2.result - c.min.result) st.items = c.as_slice.ensures.value
    ∙ c.in_ok-values.ensures.tail in (
      c.in_ok-values.ensures.tail ∙ ap {A = ℕ} (λ x. drop (x - c.min.result) st.items) len2
          ∙ taken_items c.args.self.now g f place c.min.result c.args.count sl ops outer h n,
      taken_lays c.args.self.now _ g f place c.min.result c.args.count c.charges_of.result sl ops outer h n
          (c.in_ok-values.ensures.items ∙ ap {A = ℕ} (λ x. take (x - c.min.result) st.items) len2)
          (c.charges_of.ensures ∙ ap charges_of (vals ∙ ap {A = ℕ} (λ x. drop (x - c.min.result) st.items) len2))
          refl refl refl refl refl,
    )

pub returns-clause-held : goal.returns-clause-held
returns-clause-held c =
    let h = c.requires in
    let st = c.args.self.now.stack in
    let lenis : c.len.result ≡ length st.items = c.len.ensures ∙ st.ok.0 in
    let len2 : c.len-2.result ≡ length st.items = c.len-2.ensures ∙ st.ok.0 in
    let dep = depth_is c.args.self.now h.0 h.1 h.2 h.3 h.4 h.5 h.6 in
    let n = n_is c.args.count c.min.result (c.len.result - c.args.self.now.active.floor) h.4 (omega arith)
    c.min.ensures in
    let vals : c.as_slice.result.now ≡ drop (c.len-2.result - c.min.result) st.items = c.as_slice.ensures.value
    ∙ c.in_ok-values.ensures.tail in (
      h.0,
      h.1,
      h.2,
      h.3,
      drop c.args.count h.4,
      h.5,
      taken_lays c.args.self.now _ h.0 h.1 h.2 c.min.result
          c.args.count c.charges_of.result h.3 h.4 h.5 h.6 n
          (c.in_ok-values.ensures.items ∙ ap {A = ℕ} (λ x. take (x - c.min.result) st.items) len2)
          (c.charges_of.ensures ∙ ap charges_of (vals ∙ ap {A = ℕ} (λ x. drop (x - c.min.result) st.items) len2))
          refl refl refl refl refl,
    )

pub returns-clause-small : goal.returns-clause-small
returns-clause-small c =
    let h = c.requires in
    let st = c.args.self.now.stack in
    let lenis : c.len.result ≡ length st.items = c.len.ensures ∙ st.ok.0 in
    let len2 : c.len-2.result ≡ length st.items = c.len-2.ensures ∙ st.ok.0 in
    let dep = depth_is c.args.self.now h.0 h.1 h.2 h.3 h.4 h.5 h.6 in
    let n = n_is c.args.count c.min.result (c.len.result - c.args.self.now.active.floor) h.4 (omega arith)
    c.min.ensures in
    let vals : c.as_slice.result.now ≡ drop (c.len-2.result - c.min.result) st.items = c.as_slice.ensures.value
    ∙ c.in_ok-values.ensures.tail in
    let le = given_least c.args.self.now h.0 h.1 h.2 c.args.count c.min.result h.3 h.4 h.5 h.6 n in
    let a = le.0 in
    let b = le.1 in
    let d = ap charges_of (vals ∙ ap {A = ℕ} (λ x. drop (x - c.min.result) st.items) len2) in
    let e = ap charges_of c.as_slice.ensures.value in
    omega arith
