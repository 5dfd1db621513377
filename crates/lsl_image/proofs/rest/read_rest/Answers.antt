use Rattle.lsl_image.specs.Rest.{rest}
use Rattle.lsl_image.proofs.LeadingLemmas.{leads-all, leads-exits, leads-reads, leads-then}
use Rattle.lsl_image.proofs.RestLemmas.{rest-dead, rest-idle, rest-saved}
use Rattle.lsl_image.proofs.rest.read_rest.Goals as goal

pub returns-in_err-kind : goal.returns-in_err-kind
unfolding rest
returns-in_err-kind c =
    leads-exits _ _ _ _ (leads-all c.args.bytes.now
    (rest c.args.unit.now c.args.state c.args.exits c.args.globals.now c.args.limit) c.args.place)
    c.in_err-kind.ensures.read c.from_residual.ensures.1

pub returns-then-kind-eq0 : goal.returns-then-kind-eq0
unfolding rest
returns-then-kind-eq0 c =
    let leads = leads-then _ _ (leads-all c.args.bytes.now
    (rest c.args.unit.now c.args.state c.args.exits c.args.globals.now c.args.limit) c.args.place)
    c.in_ok-kind.ensures.read in
    rest-idle c.args.bytes.now c.args.unit.now c.args.state c.args.exits c.args.globals.now c.args.limit
    c.in_ok-kind.kind _ _ _ leads c.if-kind-eq0.true

pub returns-then-kind-eq1 : goal.returns-then-kind-eq1
unfolding rest
returns-then-kind-eq1 c =
    let leads = leads-then _ _ (leads-all c.args.bytes.now
    (rest c.args.unit.now c.args.state c.args.exits c.args.globals.now c.args.limit) c.args.place)
    c.in_ok-kind.ensures.read in
    leads-reads _ (rest-saved c.args.bytes.now c.args.unit.now c.args.state c.args.exits c.args.globals.now
    c.args.limit c.in_ok-kind.kind _ _ _ leads c.if-kind-eq1.true) c.read_saved.ensures

pub returns : goal.returns
unfolding rest
returns c =
    let leads = leads-then _ _ (leads-all c.args.bytes.now
    (rest c.args.unit.now c.args.state c.args.exits c.args.globals.now c.args.limit) c.args.place)
    c.in_ok-kind.ensures.read in
    leads-reads _ (rest-dead c.args.bytes.now c.args.unit.now c.args.state c.args.exits c.args.globals.now
    c.args.limit c.in_ok-kind.kind _ _ _ leads c.if-kind-eq0.false c.if-kind-eq1.false) c.read_dead.ensures
