use Rattle.std.proofs.Common.{refl}
use Rattle.lsl_image.specs.Rest.{saved_calls}
use Rattle.lsl_image.proofs.ChargeLemmas.{charged-all}
use Rattle.lsl_image.proofs.LeadingLemmas.{leads-all, leads-exits, leads-here, leads-then}
use Rattle.lsl_image.proofs.RestLemmas.{calls-given, calls-refused}
use Rattle.lsl_image.proofs.calls.read_calls.Goals as goal

pub returns-in_err-count : goal.returns-in_err-count
unfolding saved_calls
returns-in_err-count c =
    leads-exits _ _ _ _ (leads-here _ (leads-all c.args.bytes.now
    (saved_calls c.args.unit.now c.args.globals.now c.args.limit c.args.handler) c.args.place))
    c.in_err-count.ensures c.from_residual.ensures.1

pub returns-in_err-sack : goal.returns-in_err-sack
unfolding saved_calls
returns-in_err-sack c =
    leads-exits _ _ _ _ (leads-then _ _ (leads-here _
    (leads-all c.args.bytes.now (saved_calls c.args.unit.now c.args.globals.now c.args.limit c.args.handler)
    c.args.place)) c.in_ok-count.ensures) c.in_err-sack.ensures.reads c.from_residual-in_err-sack.ensures.1

pub returns-then-not-is_within : goal.returns-then-not-is_within
unfolding saved_calls
returns-then-not-is_within c =
    let leads = leads-then _ _ (leads-then _ _
    (leads-here _ (leads-all c.args.bytes.now
    (saved_calls c.args.unit.now c.args.globals.now c.args.limit c.args.handler) c.args.place))
    c.in_ok-count.ensures) c.in_ok-sack.ensures.reads in
    let within = c.is_within.ensures _ (charged-all c.args.globals.now _ c.in_ok-sack.sack _ _
    c.as_slice.ensures c.charged_with_values-charged.ensures c.in_ok-sack.ensures.charged) in
    rw c.wrong.ensures (calls-refused c.args.bytes.now c.args.globals.now c.args.limit c.args.place
    c.in_ok-sack.sack _ refl _ within _ _ _ leads c.if-not-is_within.true)

pub returns : goal.returns
unfolding saved_calls
returns c =
    let leads = leads-then _ _ (leads-then _ _
    (leads-here _ (leads-all c.args.bytes.now
    (saved_calls c.args.unit.now c.args.globals.now c.args.limit c.args.handler) c.args.place))
    c.in_ok-count.ensures) c.in_ok-sack.ensures.reads in
    let within = c.is_within.ensures _ (charged-all c.args.globals.now _ c.in_ok-sack.sack _ _
    c.as_slice.ensures c.charged_with_values-charged.ensures c.in_ok-sack.ensures.charged) in
    calls-given c.args.bytes.now c.args.globals.now c.args.limit c.args.place c.in_ok-sack.sack _ refl _
    within _ _ _ leads c.if-not-is_within.false
