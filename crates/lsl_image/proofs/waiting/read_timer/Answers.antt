use Rattle.std.proofs.Common.{◌∙◌, sym}
use Rattle.lsl_image.specs.Script.{timer}
use Rattle.lsl_image.proofs.LeadingLemmas.{leads-all, leads-exits, leads-here, leads-then}
use Rattle.lsl_image.proofs.WaitingLemmas.{timer-given, timer-refused}
use Rattle.lsl_image.proofs.waiting.read_timer.Goals as goal

pub returns-in_err-period : goal.returns-in_err-period
unfolding timer
returns-in_err-period c = leads-exits _ _ _ _ (leads-all c.args.bytes.now timer c.args.place)
    c.in_err-period.ensures.read c.from_residual.ensures.1

pub returns-in_err-due : goal.returns-in_err-due
unfolding timer
returns-in_err-due c =
    leads-exits _ _ _ _ (leads-here _ (leads-then _ _ (leads-all c.args.bytes.now timer c.args.place)
    c.in_ok-period.ensures.read)) c.in_err-due.ensures c.from_residual-in_err-due.ensures.1

pub returns-then-not-fits_timer : goal.returns-then-not-fits_timer
unfolding timer
returns-then-not-fits_timer c =
    let leads = leads-then _ _ (leads-here _
    (leads-then _ _ (leads-all c.args.bytes.now timer c.args.place) c.in_ok-period.ensures.read))
    c.in_ok-due.ensures in
    rw c.wrong.ensures (timer-refused c.args.bytes.now c.in_ok-period.middle c.in_ok-period.period
    c.in_ok-due.due _ _ _ leads (sym c.fits_timer.ensures ∙ c.if-not-fits_timer.true))

pub invariant_of-timer : goal.invariant_of-timer
invariant_of-timer c = record { fits = sym c.fits_timer.ensures ∙ c.if-not-fits_timer.false }

pub returns : goal.returns
unfolding timer
returns c =
    let leads = leads-then _ _ (leads-here _
    (leads-then _ _ (leads-all c.args.bytes.now timer c.args.place) c.in_ok-period.ensures.read))
    c.in_ok-due.ensures in
    timer-given c.args.bytes.now c.in_ok-period.middle c.in_ok-period.period c.in_ok-due.due _ _ _ leads _
