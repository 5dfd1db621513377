use Rattle.std.proofs.Common.{◌∙◌, refl, ap, subst, ℕ, ◌+◌, ◌-◌, ◌<◌, slice_set}
use Rattle.lsl_running.specs.Charging.{with_global}
use Rattle.lsl_machine.proofs.Storing.{global_lays}
use Rattle.std.proofs.Common.{ap₂}
use Rattle.lsl_machine.proofs.running.Running.set_global.Goals as goal

pub returns-then-n-len-clause-held : goal.returns-then-n-len-clause-held
returns-then-n-len-clause-held c = let h =
    c.requires.held in (
      with_global h.0 c.args.n c.args.value,
      h.1,
      h.2,
      h.3,
      h.4,
      h.5,
      global_lays c.args.self.now _ h.0 h.1 h.2 c.args.n c.args.value c.replace-before.result c.index_mut.result.now
          h.3 h.4 h.5 h.6
          (subst (λ k. c.args.n < k) c.args.self.now.globals.ok.0
          (subst (λ k. c.args.n < k) c.len.ensures c.if-n-len.true))
          (ap (λ w. slice_set c.args.self.now.globals.items c.args.n w) c.replace-before.ensures.after)
          (c.replace-before.ensures.value ∙ c.index_mut.ensures.value)
          (ap₂ {A = ℕ} {B = ℕ} {C = ℕ} (λ x y. c.args.self.now.global_charge + x - y) c.charge.ensures
          c.charge-then-n-len.ensures) c.requires.charged refl refl refl refl,
    )
