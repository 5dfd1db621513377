use Rattle.std.proofs.Common.{length}
use Rattle.lsl_image.specs.Object.{object}
use Rattle.lsl_image.proofs.LeadingLemmas.{leads-all, leads-ends, leads-exits, leads-then}
use Rattle.lsl_image.proofs.world.read_object_fields.Goals as goal

pub returns-in_err-version : goal.returns-in_err-version
unfolding object
returns-in_err-version c =
    leads-exits _ _ _ _ (leads-all c.args.fields.now (object c.args.region.now c.args.shape.now c.args.library.now
    (length c.args.fields.now)) 0) c.in_err-version.ensures c.from_residual.ensures.1

pub returns-in_err-_from : goal.returns-in_err-_from
unfolding object
returns-in_err-_from c =
    leads-exits _ _ _ _ (leads-then _ _ (leads-all c.args.fields.now
    (object c.args.region.now c.args.shape.now c.args.library.now (length c.args.fields.now)) 0)
    c.in_ok-version.ensures) c.in_err-_from.ensures c.from_residual-in_err-_from.ensures.1

pub returns-in_err-parts : goal.returns-in_err-parts
unfolding object
returns-in_err-parts c =
    leads-exits _ _ _ _ (leads-then _ _ (leads-then _ _
    (leads-all c.args.fields.now (object c.args.region.now c.args.shape.now c.args.library.now
    (length c.args.fields.now)) 0) c.in_ok-version.ensures) c.in_ok-_from.ensures) c.in_err-parts.ensures
    c.from_residual-in_err-parts.ensures.1

pub returns-in_err-_last : goal.returns-in_err-_last
unfolding object
returns-in_err-_last c =
    leads-exits _ _ _ _ (leads-then _ _ (leads-then _ _
    (leads-then _ _ (leads-all c.args.fields.now (object c.args.region.now c.args.shape.now c.args.library.now
    (length c.args.fields.now)) 0) c.in_ok-version.ensures) c.in_ok-_from.ensures) c.in_ok-parts.ensures)
    c.in_err-_last.ensures c.from_residual-in_err-_last.ensures.1

pub returns : goal.returns
unfolding object
returns c = leads-ends (leads-then _ _ (leads-then _ _ (leads-then _ _
    (leads-then _ _ (leads-all c.args.fields.now (object c.args.region.now c.args.shape.now c.args.library.now
    (length c.args.fields.now)) 0) c.in_ok-version.ensures) c.in_ok-_from.ensures) c.in_ok-parts.ensures)
    c.in_ok-_last.ensures)
