use Rattle.std.proofs.Common.{◌∙◌, refl, ap, ℕ, ◌+◌, ◌-◌, slice_set}
use Rattle.lsl_machine.specs.declared.running.Activation.{Activation}
use Rattle.lsl_machine.proofs.Storing.{slot_lays, slot_was}
use Rattle.std.proofs.Common.{ap₂}
use Rattle.lsl_machine.proofs.running.Running.replace_slot.Goals as goal

pub returns-clause-set : goal.returns-clause-set
returns-clause-set c g f place sl ops outer h =
    slot_lays c.args.self.now _ g f place c.args.n c.args.value c.replace-before.result c.index_mut.result.now sl
    ops outer h c.requires.inside
    (ap (λ w. slice_set c.args.self.now.stack.items (c.args.self.now.active.base + c.args.n) w)
    c.replace-before.ensures.after) (c.replace-before.ensures.value ∙ c.index_mut.ensures.value)
    (ap₂ {A = ℕ} {B = ℕ} {C = Activation}
    (λ x y. record c.args.self.now.active { charge = c.args.self.now.active.charge + x - y }) c.charge.ensures
    c.charge-2.ensures) c.requires.charged refl refl refl refl

pub returns-clause-held : goal.returns-clause-held
returns-clause-held c = let h =
    c.requires.held in (
      h.0,
      h.1,
      h.2,
      slice_set h.3 c.args.n c.args.value,
      h.4,
      h.5,
      slot_lays c.args.self.now _ h.0 h.1 h.2 c.args.n c.args.value c.replace-before.result c.index_mut.result.now h.3
          h.4 h.5 h.6 c.requires.inside
          (ap (λ w. slice_set c.args.self.now.stack.items (c.args.self.now.active.base + c.args.n) w)
          c.replace-before.ensures.after) (c.replace-before.ensures.value ∙ c.index_mut.ensures.value)
          (ap₂ {A = ℕ} {B = ℕ} {C = Activation}
          (λ x y. record c.args.self.now.active { charge = c.args.self.now.active.charge + x - y }) c.charge.ensures
          c.charge-2.ensures) c.requires.charged refl refl refl refl,
    )

pub returns-clause-was : goal.returns-clause-was
returns-clause-was c g f place sl ops outer h =
    slot_was c.args.self.now c.args.n c.replace-before.result c.index_mut.result.now c.requires.inside
    (c.replace-before.ensures.value ∙ c.index_mut.ensures.value) g f place sl ops outer h
