use Rattle.std.proofs.Common.{◌≡◌, ◌∙◌, Bool, ◌++◌, ap, sym, subst, append-nil}
use Rattle.std.specs.Prelude.{if◌then◌else◌}
use Rattle.lsl_post.specs.Journal.{Tells}
use Rattle.lsl_post.specs.Timer.{timing_of}
use Rattle.lsl_post.specs.Timing.{Timing, due_after, is_due, timing_after}
use Rattle.lsl_post.specs.Told.{Told, quiet}
use Rattle.lsl_post.specs.declared.events.Event.{Event}
use Rattle.lsl_script.specs.Codes.{rules_of}
use Rattle.lsl_script.specs.Lending.{parts_with_timer}
use Rattle.lsl_script.specs.Mailing.{ticking}
use Rattle.lsl_script.specs.Parts.{parts_of}
use Rattle.lsl_script.specs.Scripts.{Script, post_to, timer_event}
use Rattle.lsl_script.proofs.Mail.{resting_timer_is_its}
use Rattle.lsl_region.proofs.timers.ring_script.Goals as goal

pub returns-then-not-read-clause-told : goal.returns-then-not-read-clause-told
returns-then-not-read-clause-told c = λ codes s has is lawful.
    let h = resting_timer_is_its codes s c.args.script.now is lawful in
    let before : timing_of c.timer.result.now ≡ s.mailbox.timing = ap timing_of c.timer.ensures.value ∙ h.same in
    let due : is_due c.args.clock s.mailbox.timing ≡ _
    = ap (is_due c.args.clock) (sym before) ∙ sym c.read.ensures.due ∙ c.if-not-read.true in
    let after : timing_of c.read.new.self ≡ s.mailbox.timing
    = c.read.ensures.after ∙ ap (timing_after c.args.clock) before
    ∙ ap (λ (b : Bool). if b then due_after s.mailbox.timing.period c.args.clock else s.mailbox.timing) due in
    subst (λ (t : Told Script). (parts_with_timer c.read.new.self c.args.script.now ≡ parts_of codes t.value)
    × (c.args.out.now ≡ c.args.out.now ++ t.entries))
    (sym (ap (λ (b : Bool). if b then post_to (rules_of codes) c.args.number timer_event
    (ticking (timing_after c.args.clock s.mailbox.timing) s) else quiet s) due)) (
      h.changed c.read.new.self ∙ ap (λ (t : Timing). parts_of codes (ticking t s)) after,
      sym
          (append-nil c.args.out.now),
    )

pub returns-clause-told : goal.returns-clause-told
returns-clause-told c = λ codes s has is lawful.
    let h = resting_timer_is_its codes s c.args.script.now is lawful in
    let before : timing_of c.timer.result.now ≡ s.mailbox.timing = ap timing_of c.timer.ensures.value ∙ h.same in
    let due : is_due c.args.clock s.mailbox.timing ≡ _
    = ap (is_due c.args.clock) (sym before) ∙ sym c.read.ensures.due ∙ c.if-not-read.false in
    let after : timing_of c.read.new.self ≡ timing_after c.args.clock s.mailbox.timing
    = c.read.ensures.after ∙ ap (timing_after c.args.clock) before in
    let t : Script = ticking (timing_after c.args.clock s.mailbox.timing) s in
    subst (λ (a : Told Script). Tells c.post_script.result (λ u _. c.post_script.new.script ≡ parts_of codes u)
    c.args.out.now c.post_script.new.out a)
    (sym (ap (λ (b : Bool). if b then post_to (rules_of codes) c.args.number timer_event t else quiet s) due))
    (subst (λ (e : Event). Tells c.post_script.result (λ u _. c.post_script.new.script ≡ parts_of codes u)
    c.args.out.now c.post_script.new.out (post_to (rules_of codes) c.args.number e t)) c.timer_event.ensures
    (c.post_script.ensures.told codes t has
    (h.changed c.read.new.self ∙ ap (λ (z : Timing). parts_of codes (ticking z s)) after)))
