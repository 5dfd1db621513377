use Rattle.std.proofs.Common.{ℕ, Option, Err, subst}
use Rattle.lsl_code.specs.Units.{handler_of}
use Rattle.lsl_image.specs.Reading.{Reads}
use Rattle.lsl_image.specs.Rest.{saved_calls, saved_rest}
use Rattle.lsl_image.proofs.LeadingLemmas.{leads-all, leads-ends, leads-exits, leads-then}
use Rattle.lsl_image.proofs.rest.read_saved.Goals as goal

pub returns-in_err-event : goal.returns-in_err-event
unfolding saved_rest
returns-in_err-event c =
    leads-exits _ _ _ _ (leads-all c.args.bytes.now
    (saved_rest c.args.unit.now c.args.state c.args.exits c.args.globals.now c.args.limit) c.args.place)
    c.in_err-event.ensures c.from_residual.ensures.1

pub returns-in_err-sack : goal.returns-in_err-sack
unfolding saved_rest
returns-in_err-sack c =
    let handled : Reads c.args.bytes.now (saved_calls c.args.unit.now c.args.globals.now c.args.limit
    (handler_of c.args.unit.now.states c.args.state c.in_ok-event.event.id)) c.in_ok-event.middle
    (Err c.in_err-sack.field-0.0) =
    subst (λ (h : Option ℕ). Reads c.args.bytes.now
    (saved_calls c.args.unit.now c.args.globals.now c.args.limit h) c.in_ok-event.middle
    (Err c.in_err-sack.field-0.0)) c.handler-handler.ensures c.in_err-sack.ensures in
    leads-exits _ _ _ _ (leads-then _ _ (leads-all c.args.bytes.now
    (saved_rest c.args.unit.now c.args.state c.args.exits c.args.globals.now c.args.limit) c.args.place)
    c.in_ok-event.ensures) handled c.from_residual-in_err-sack.ensures.1

pub returns : goal.returns
unfolding saved_rest
returns c =
    leads-ends (leads-then _ _ (leads-then _ _
    (leads-all c.args.bytes.now (saved_rest c.args.unit.now c.args.state c.args.exits c.args.globals.now
    c.args.limit) c.args.place) c.in_ok-event.ensures)
    (rw c.handler-handler.ensures at c.in_ok-sack.ensures))
