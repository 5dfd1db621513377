use Rattle.std.proofs.Common.{refl}
use Rattle.lsl_region.proofs.Calls.{no-mailing-left}
use Rattle.lsl_region.proofs.mailbox_calls.mail.Goals as goal

pub returns-in-Listen-clause-does : goal.returns-in-Listen-clause-does
returns-in-Listen-clause-does c = rw c.in-Listen.is c.listen.ensures.does

pub returns-in-ListenRemove-clause-does : goal.returns-in-ListenRemove-clause-does
returns-in-ListenRemove-clause-does c = λ codes unit s f of k.
    rw c.in-ListenRemove.is (c.unlisten.ensures.does codes unit s f of k, refl)

pub returns-in-ListenControl-clause-does : goal.returns-in-ListenControl-clause-does
returns-in-ListenControl-clause-does c = λ codes unit s f of k.
    rw c.in-ListenControl.is (c.control.ensures.does codes unit s f of k, refl)

pub returns-in-SetTimerEvent-clause-does : goal.returns-in-SetTimerEvent-clause-does
returns-in-SetTimerEvent-clause-does c = λ codes unit s f of k.
    rw c.in-SetTimerEvent.is (c.set_timer.ensures.does codes unit s f of k, refl)

pub returns-in-Sleep-clause-does : goal.returns-in-Sleep-clause-does
returns-in-Sleep-clause-does c = λ codes unit s f of k.
    rw c.in-Sleep.is (c.sleep.ensures.does codes unit s f of k, refl)

pub returns-in-Listen-clause-stop : goal.returns-in-Listen-clause-stop
returns-in-Listen-clause-stop c = rw c.in-Listen.is c.listen.ensures.stop

pub returns-in-ListenRemove-clause-stop : goal.returns-in-ListenRemove-clause-stop
returns-in-ListenRemove-clause-stop c = rw c.in-ListenRemove.is refl

pub returns-in-ListenControl-clause-stop : goal.returns-in-ListenControl-clause-stop
returns-in-ListenControl-clause-stop c = rw c.in-ListenControl.is refl

pub returns-in-SetTimerEvent-clause-stop : goal.returns-in-SetTimerEvent-clause-stop
returns-in-SetTimerEvent-clause-stop c = rw c.in-SetTimerEvent.is refl

pub returns-in-Sleep-clause-stop : goal.returns-in-Sleep-clause-stop
returns-in-Sleep-clause-stop c = rw c.in-Sleep.is refl

pub unreachable-requires : goal.unreachable-requires
unreachable-requires c =
    no-mailing-left c.args.id c.requires.id c.in_default.not-Listen c.in_default.not-ListenRemove
    c.in_default.not-ListenControl c.in_default.not-SetTimerEvent c.in_default.not-Sleep
