use Rattle.std.proofs.Common.{◌∙◌, sym}
use Rattle.lsl_image.specs.Script.{event_in}
use Rattle.lsl_image.proofs.EventLemmas.{event-allowed, event-refused, event-unknown}
use Rattle.lsl_image.proofs.LeadingLemmas.{leads-all, leads-exits, leads-here, leads-reads, leads-then}
use Rattle.lsl_image.proofs.events.read_event.Goals as goal

pub returns-in_err-number : goal.returns-in_err-number
unfolding event_in
returns-in_err-number c =
    leads-exits _ _ _ _ (leads-here _ (leads-all c.args.bytes.now
    (event_in c.args.unit.now c.args.state c.args.exits) c.args.place)) c.in_err-number.ensures
    c.from_residual.ensures.1

pub returns-in_default : goal.returns-in_default
unfolding event_in
returns-in_default c =
    let leads = leads-then _ _ (leads-here _
    (leads-all c.args.bytes.now (event_in c.args.unit.now c.args.state c.args.exits) c.args.place))
    c.in_ok-number.ensures in
    rw c.wrong.ensures (event-unknown c.args.bytes.now c.args.unit.now c.args.state c.args.exits c.args.place _
    _ _ _ leads c.in_default.ensures)

pub returns-then-not-may_stand : goal.returns-then-not-may_stand
unfolding event_in
returns-then-not-may_stand c =
    let leads = leads-then _ _ (leads-here _
    (leads-all c.args.bytes.now (event_in c.args.unit.now c.args.state c.args.exits) c.args.place))
    c.in_ok-number.ensures in
    rw c.wrong-then-not-may_stand.ensures
    (event-refused c.args.bytes.now c.args.unit.now c.args.state c.args.exits c.args.place _ _ _ _ leads
    c.in-Some.id c.in-Some.ensures (sym c.may_stand.ensures ∙ c.if-not-may_stand.true))

pub returns : goal.returns
unfolding event_in
returns c =
    let leads = leads-then _ _ (leads-here _
    (leads-all c.args.bytes.now (event_in c.args.unit.now c.args.state c.args.exits) c.args.place))
    c.in_ok-number.ensures in
    leads-reads _ (event-allowed c.args.bytes.now c.args.unit.now c.args.state c.args.exits c.args.place _ _ _ _
    leads c.in-Some.id c.in-Some.ensures (sym c.may_stand.ensures ∙ c.if-not-may_stand.false))
    c.read_event_of.ensures
