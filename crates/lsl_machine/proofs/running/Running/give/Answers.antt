use Rattle.std.proofs.Common.{◌≡◌, sym, ap, subst, ◌+◌, ◌∷◌}
use Rattle.lsl_code.specs.Machine.{call_at}
use Rattle.lsl_machine.specs.Laid.{Lays}
use Rattle.lsl_machine.proofs.Laying.{placed}
use Rattle.lsl_machine.proofs.Doing.{gives_does}
use Rattle.lsl_machine.proofs.running.Running.give.Goals as goal

pub push-requires : goal.push-requires
push-requires c =
    let h = c.requires.held in
    let p : h.2 ≡ c.args.self.now.active.place = sym (ap (λ a. a.place) h.6.active) in (
      h.0,
      h.1,
      h.2 + 1,
      h.3,
      h.4,
      h.5,
      subst (λ q. Lays (record c.args.self.now { active = record c.args.self.now.active { place = q + 1 } }) h.0
          (call_at h.1 (h.2 + 1) h.3 h.4) h.5) p (placed c.args.self.now h.0 h.1 h.2 (h.2 + 1) h.3 h.4 h.5 h.6),
    )

pub returns-clause-done : goal.returns-clause-done
returns-clause-done c g f place sl ops outer h =
    let p : place ≡ c.args.self.now.active.place = sym (ap (λ a. a.place) h.active) in
    gives_does g f place sl (c.args.value ∷ ops) outer _ _
    (c.push.ensures.done g f (place + 1) sl ops outer
    (subst (λ q. Lays (record c.args.self.now { active = record c.args.self.now.active { place = q + 1 } }) g
    (call_at f (place + 1) sl ops) outer) p (placed c.args.self.now g f place (place + 1) sl ops outer h)))
