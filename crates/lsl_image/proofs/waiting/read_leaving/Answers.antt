use Rattle.std.proofs.Common.{◌∙◌, sym}
use Rattle.lsl_image.specs.Script.{leaving}
use Rattle.lsl_image.proofs.LeadingLemmas.{leads-all, leads-ends, leads-exits, leads-here, leads-then}
use Rattle.lsl_image.proofs.WaitingLemmas.{leaving-none, leaving-refused, leaving-some}
use Rattle.lsl_image.proofs.waiting.read_leaving.Goals as goal

pub returns-in_err-flag : goal.returns-in_err-flag
unfolding leaving
returns-in_err-flag c =
    leads-exits _ _ _ _ (leads-here _ (leads-all c.args.bytes.now (leaving c.args.unit.now c.args.state)
    c.args.place)) c.in_err-flag.ensures c.from_residual.ensures.1

pub returns-then-flag-eq0 : goal.returns-then-flag-eq0
unfolding leaving
returns-then-flag-eq0 c =
    let leads = leads-then _ _ (leads-here _
    (leads-all c.args.bytes.now (leaving c.args.unit.now c.args.state) c.args.place)) c.in_ok-flag.ensures
    in
    leaving-none c.args.bytes.now c.args.unit.now c.args.state c.args.place _ _ _ c.in_ok-flag.flag
    c.if-flag-eq0.true leads

pub returns-then-not-has_exit : goal.returns-then-not-has_exit
unfolding leaving
returns-then-not-has_exit c =
    let leads = leads-then _ _ (leads-here _
    (leads-all c.args.bytes.now (leaving c.args.unit.now c.args.state) c.args.place)) c.in_ok-flag.ensures
    in
    rw c.wrong.ensures (leaving-refused c.args.bytes.now c.args.unit.now c.args.state c.args.place _ _ _
    c.in_ok-flag.flag c.if-flag-eq0.false (sym c.has_exit.ensures ∙ c.if-not-has_exit.true) leads)

pub returns-in_err-to : goal.returns-in_err-to
unfolding leaving
returns-in_err-to c =
    let leads = leads-then _ _ (leads-here _
    (leads-all c.args.bytes.now (leaving c.args.unit.now c.args.state) c.args.place)) c.in_ok-flag.ensures
    in
    leads-exits _ _ _ _ (leaving-some c.args.bytes.now c.args.unit.now c.args.state c.args.place _ _ _
    c.in_ok-flag.flag c.if-flag-eq0.false (sym c.has_exit.ensures ∙ c.if-not-has_exit.false) leads)
    c.in_err-to.ensures c.from_residual-in_err-to.ensures.1

pub returns : goal.returns
unfolding leaving
returns c =
    let leads = leads-then _ _ (leads-here _
    (leads-all c.args.bytes.now (leaving c.args.unit.now c.args.state) c.args.place)) c.in_ok-flag.ensures
    in
    leads-ends (leads-then _ _ (leaving-some c.args.bytes.now c.args.unit.now c.args.state c.args.place _ _ _
    c.in_ok-flag.flag c.if-flag-eq0.false (sym c.has_exit.ensures ∙ c.if-not-has_exit.false) leads)
    c.in_ok-to.ensures)
