use Rattle.std.proofs.Common.{Bool, Err, subst}
use Rattle.lsl_image.specs.Reading.{Gives, Reads}
use Rattle.lsl_image.specs.Rest.{rest, script}
use Rattle.lsl_image.proofs.LeadingLemmas.{leads-all, leads-ends, leads-exits, leads-then}
use Rattle.lsl_image.proofs.script.read_script.Goals as goal

pub returns-in_err-_digest : goal.returns-in_err-_digest
unfolding script
returns-in_err-_digest c =
    leads-exits _ _ _ _ (leads-all c.args.bytes.now (script c.args.version c.args.number c.args.unit.now) c.args.place)
    c.in_err-_digest.ensures c.from_residual.ensures.1

pub returns-in_err-state : goal.returns-in_err-state
unfolding script
returns-in_err-state c =
    leads-exits _ _ _ _ (leads-then _ _ (leads-all c.args.bytes.now
    (script c.args.version c.args.number c.args.unit.now) c.args.place) c.in_ok-_digest.ensures)
    c.in_err-state.ensures c.from_residual-in_err-state.ensures.1

pub returns-in_err-leaving : goal.returns-in_err-leaving
unfolding script
returns-in_err-leaving c =
    leads-exits _ _ _ _ (leads-then _ _ (leads-then _ _
    (leads-all c.args.bytes.now (script c.args.version c.args.number c.args.unit.now) c.args.place)
    c.in_ok-_digest.ensures) c.in_ok-state.ensures) c.in_err-leaving.ensures
    c.from_residual-in_err-leaving.ensures.1

pub returns-in_err-globals : goal.returns-in_err-globals
unfolding script
returns-in_err-globals c =
    leads-exits _ _ _ _ (leads-then _ _ (leads-then _ _
    (leads-then _ _ (leads-all c.args.bytes.now (script c.args.version c.args.number c.args.unit.now) c.args.place)
    c.in_ok-_digest.ensures) c.in_ok-state.ensures) c.in_ok-leaving.ensures) c.in_err-globals.ensures
    c.from_residual-in_err-globals.ensures.1

pub returns-in_err-queue : goal.returns-in_err-queue
unfolding script
returns-in_err-queue c =
    leads-exits _ _ _ _ (leads-then _ _ (leads-then _ _
    (leads-then _ _ (leads-then _ _ (leads-all c.args.bytes.now
    (script c.args.version c.args.number c.args.unit.now) c.args.place) c.in_ok-_digest.ensures)
    c.in_ok-state.ensures) c.in_ok-leaving.ensures) c.in_ok-globals.ensures) c.in_err-queue.ensures
    c.from_residual-in_err-queue.ensures.1

pub returns-in_err-listens : goal.returns-in_err-listens
unfolding script
returns-in_err-listens c =
    leads-exits _ _ _ _ (leads-then _ _ (leads-then _ _
    (leads-then _ _ (leads-then _ _ (leads-then _ _
    (leads-all c.args.bytes.now (script c.args.version c.args.number c.args.unit.now) c.args.place)
    c.in_ok-_digest.ensures) c.in_ok-state.ensures) c.in_ok-leaving.ensures) c.in_ok-globals.ensures)
    c.in_ok-queue.ensures) c.in_err-listens.ensures c.from_residual-in_err-listens.ensures.1

pub returns-in_err-timer : goal.returns-in_err-timer
unfolding script
returns-in_err-timer c =
    leads-exits _ _ _ _ (leads-then _ _ (leads-then _ _
    (leads-then _ _ (leads-then _ _ (leads-then _ _
    (leads-then _ _ (leads-all c.args.bytes.now (script c.args.version c.args.number c.args.unit.now) c.args.place)
    c.in_ok-_digest.ensures) c.in_ok-state.ensures) c.in_ok-leaving.ensures) c.in_ok-globals.ensures)
    c.in_ok-queue.ensures) c.in_ok-listens.ensures) c.in_err-timer.ensures c.from_residual-in_err-timer.ensures.1

pub returns-in_err-wake : goal.returns-in_err-wake
unfolding script
returns-in_err-wake c =
    leads-exits _ _ _ _ (leads-then _ _ (leads-then _ _
    (leads-then _ _ (leads-then _ _ (leads-then _ _
    (leads-then _ _ (leads-then _ _ (leads-all c.args.bytes.now
    (script c.args.version c.args.number c.args.unit.now) c.args.place) c.in_ok-_digest.ensures)
    c.in_ok-state.ensures) c.in_ok-leaving.ensures) c.in_ok-globals.ensures) c.in_ok-queue.ensures)
    c.in_ok-listens.ensures) c.in_ok-timer.ensures) c.in_err-wake.ensures c.from_residual-in_err-wake.ensures.1

pub returns-in_err-limit : goal.returns-in_err-limit
unfolding script
returns-in_err-limit c =
    leads-exits _ _ _ _ (leads-then _ _ (leads-then _ _
    (leads-then _ _ (leads-then _ _ (leads-then _ _
    (leads-then _ _ (leads-then _ _ (leads-then _ _
    (leads-all c.args.bytes.now (script c.args.version c.args.number c.args.unit.now) c.args.place)
    c.in_ok-_digest.ensures) c.in_ok-state.ensures) c.in_ok-leaving.ensures) c.in_ok-globals.ensures)
    c.in_ok-queue.ensures) c.in_ok-listens.ensures) c.in_ok-timer.ensures) c.in_ok-wake.ensures)
    c.in_err-limit.ensures c.from_residual-in_err-limit.ensures.1

pub returns-in_err-rest : goal.returns-in_err-rest
unfolding script
returns-in_err-rest c =
    leads-exits _ _ _ _ (leads-then _ _ (leads-then _ _
    (leads-then _ _ (leads-then _ _ (leads-then _ _
    (leads-then _ _ (leads-then _ _ (leads-then _ _
    (leads-then _ _ (leads-all c.args.bytes.now (script c.args.version c.args.number c.args.unit.now) c.args.place)
    c.in_ok-_digest.ensures) c.in_ok-state.ensures) c.in_ok-leaving.ensures) c.in_ok-globals.ensures)
    c.in_ok-queue.ensures) c.in_ok-listens.ensures) c.in_ok-timer.ensures) c.in_ok-wake.ensures)
    c.in_ok-limit.ensures) (subst (λ (b : Bool). Reads c.args.bytes.now
    (rest c.args.unit.now c.in_ok-state.state b c.in_ok-globals.globals c.in_ok-limit.limit) c.in_ok-limit.next
    (Err c.in_err-rest.field-0.0)) c.is_some-exits.ensures c.in_err-rest.ensures)
    c.from_residual-in_err-rest.ensures.1

pub returns : goal.returns
unfolding script
returns c = leads-ends (leads-then _ _ (leads-then _ _ (leads-then _ _
    (leads-then _ _ (leads-then _ _ (leads-then _ _ (leads-then _ _
    (leads-then _ _ (leads-then _ _ (leads-then _ _ (leads-all c.args.bytes.now
    (script c.args.version c.args.number c.args.unit.now) c.args.place) c.in_ok-_digest.ensures) c.in_ok-state.ensures)
    c.in_ok-leaving.ensures) c.in_ok-globals.ensures) c.in_ok-queue.ensures) c.in_ok-listens.ensures)
    c.in_ok-timer.ensures) c.in_ok-wake.ensures) c.in_ok-limit.ensures)
    (subst (λ (b : Bool). Gives c.args.bytes.now (rest c.args.unit.now c.in_ok-state.state b c.in_ok-globals.globals
    c.in_ok-limit.limit) c.in_ok-limit.next c.in_ok-rest.rest c.in_ok-rest.next) c.is_some-exits.ensures
    c.in_ok-rest.ensures))
