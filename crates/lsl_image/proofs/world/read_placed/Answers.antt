use Rattle.lsl_image.specs.World.{placed}
use Rattle.lsl_image.proofs.LeadingLemmas.{leads-all, leads-ends, leads-exits, leads-then}
use Rattle.lsl_image.proofs.world.read_placed.Goals as goal

pub returns-in_err-region : goal.returns-in_err-region
unfolding placed
returns-in_err-region c =
    leads-exits _ _ _ _ (leads-all c.args.bytes.now (placed c.args.version c.args.library.now c.args.shape.now)
    c.args.place) c.in_err-region.ensures c.from_residual.ensures.1

pub returns-in_err-object : goal.returns-in_err-object
unfolding placed
returns-in_err-object c =
    leads-exits _ _ _ _ (leads-then _ _ (leads-all c.args.bytes.now
    (placed c.args.version c.args.library.now c.args.shape.now) c.args.place) c.in_ok-region.ensures)
    c.in_err-object.ensures c.from_residual-in_err-object.ensures.1

pub returns : goal.returns
unfolding placed
returns c = leads-ends (leads-then _ _ (leads-then _ _ (leads-all c.args.bytes.now
    (placed c.args.version c.args.library.now c.args.shape.now) c.args.place) c.in_ok-region.ensures)
    c.in_ok-object.ensures)
