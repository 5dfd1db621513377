use Rattle.std.proofs.Common.{◌≡◌, ℕ, rules, subst}
use Rattle.lsl_script.specs.Lives.{Waits}
use Rattle.lsl_script.specs.Scripts.{napped}
use Rattle.lsl_region.specs.Answers.{integer_at, wake_after}
use Rattle.lsl_region.proofs.mailbox_calls.sleep.Goals as goal

pub returns-clause-does : goal.returns-clause-does
returns-clause-does c = λ codes unit s f id k.
    let e : c.wake_after.result ≡ wake_after (integer_at 0 c.args.args.now) c.args.clock = search rules in
    subst (λ (n : ℕ). Waits codes unit (napped n s) f id c.nap.new.self) e (c.nap.ensures.source codes unit s f id k)
