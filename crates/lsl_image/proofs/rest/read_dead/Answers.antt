use Rattle.lsl_image.specs.Rest.{dead_rest}
use Rattle.lsl_image.proofs.LeadingLemmas.{leads-all, leads-ends, leads-exits, leads-then}
use Rattle.lsl_image.proofs.rest.read_dead.Goals as goal

pub returns-in_err-number : goal.returns-in_err-number
unfolding dead_rest
returns-in_err-number c = leads-exits _ _ _ _ (leads-all c.args.bytes.now dead_rest c.args.place)
    c.in_err-number.ensures c.from_residual.ensures.1

pub returns : goal.returns
unfolding dead_rest
returns c = rw c.fault_numbered.ensures (leads-ends
    (leads-then _ _ (leads-all c.args.bytes.now dead_rest c.args.place) c.in_ok-number.ensures))
