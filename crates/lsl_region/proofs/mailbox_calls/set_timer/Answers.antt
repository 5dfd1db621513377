use Rattle.std.proofs.Common.{◌≡◌, rules, subst}
use Rattle.lsl_post.specs.Timer.{timing_of}
use Rattle.lsl_post.specs.Timing.{Timing, timing_set}
use Rattle.lsl_script.specs.Lives.{Waits}
use Rattle.lsl_script.specs.Mailing.{ticking, with_timer}
use Rattle.lsl_script.proofs.Mail.{timer_is_its}
use Rattle.lsl_region.specs.Answers.{integer_at}
use Rattle.lsl_region.proofs.mailbox_calls.set_timer.Goals as goal

pub returns-clause-does : goal.returns-clause-does
returns-clause-does c = λ codes unit s f id k.
    let h = timer_is_its codes unit s f id c.args.live.now k in
    let e : timing_of c.set.new.self ≡ timing_set (integer_at 0 c.args.args.now) c.args.clock = search rules in
    subst (λ (t : Timing). Waits codes unit (ticking t s) f id (with_timer c.set.new.self c.args.live.now)) e
    (h.changed c.set.new.self)
