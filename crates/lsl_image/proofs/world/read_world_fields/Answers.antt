use Rattle.std.proofs.Common.{List, Err, subst, length}
use Rattle.lsl_image.specs.declared.parts.Shape.{Shape}
use Rattle.lsl_image.specs.Layout.{each}
use Rattle.lsl_image.specs.Reading.{Gives, Reads}
use Rattle.lsl_image.specs.World.{placed, world}
use Rattle.lsl_image.proofs.LeadingLemmas.{leads-all, leads-ends, leads-exits, leads-then}
use Rattle.lsl_image.proofs.world.read_world_fields.Goals as goal

pub returns-in_err-version : goal.returns-in_err-version
unfolding world
returns-in_err-version c =
    leads-exits _ _ _ _ (leads-all c.args.fields.now (world c.args.shapes.now c.args.library.now
    (length c.args.fields.now)) 0) c.in_err-version.ensures c.from_residual.ensures.1

pub returns-in_err-clock : goal.returns-in_err-clock
unfolding world
returns-in_err-clock c =
    leads-exits _ _ _ _ (leads-then _ _ (leads-all c.args.fields.now
    (world c.args.shapes.now c.args.library.now (length c.args.fields.now)) 0) c.in_ok-version.ensures)
    c.in_err-clock.ensures c.from_residual-in_err-clock.ensures.1

pub returns-in_err-_count : goal.returns-in_err-_count
unfolding world
returns-in_err-_count c =
    leads-exits _ _ _ _ (leads-then _ _ (leads-then _ _
    (leads-all c.args.fields.now (world c.args.shapes.now c.args.library.now (length c.args.fields.now)) 0)
    c.in_ok-version.ensures) c.in_ok-clock.ensures) c.in_err-_count.ensures c.from_residual-in_err-_count.ensures.1

pub returns-in_err-objects : goal.returns-in_err-objects
unfolding world
returns-in_err-objects c =
    leads-exits _ _ _ _ (leads-then _ _ (leads-then _ _
    (leads-then _ _ (leads-all c.args.fields.now (world c.args.shapes.now c.args.library.now
    (length c.args.fields.now)) 0) c.in_ok-version.ensures) c.in_ok-clock.ensures) c.in_ok-_count.ensures)
    (subst (λ (ss : List Shape). Reads c.args.fields.now
    (each (placed c.in_ok-version.version c.args.library.now) ss) c.in_ok-_count.next
    (Err c.in_err-objects.field-0.0)) c.as_slice.ensures c.in_err-objects.ensures)
    c.from_residual-in_err-objects.ensures.1

pub returns-in_err-_last : goal.returns-in_err-_last
unfolding world
returns-in_err-_last c =
    leads-exits _ _ _ _ (leads-then _ _ (leads-then _ _
    (leads-then _ _ (leads-then _ _ (leads-all c.args.fields.now
    (world c.args.shapes.now c.args.library.now (length c.args.fields.now)) 0) c.in_ok-version.ensures)
    c.in_ok-clock.ensures) c.in_ok-_count.ensures) (subst
    (λ (ss : List Shape). Gives c.args.fields.now (each (placed c.in_ok-version.version c.args.library.now) ss)
    c.in_ok-_count.next c.in_ok-objects.objects c.in_ok-objects.next) c.as_slice.ensures c.in_ok-objects.ensures))
    c.in_err-_last.ensures c.from_residual-in_err-_last.ensures.1

pub returns : goal.returns
unfolding world
returns c = leads-ends (leads-then _ _ (leads-then _ _ (leads-then _ _
    (leads-then _ _ (leads-then _ _ (leads-all c.args.fields.now
    (world c.args.shapes.now c.args.library.now (length c.args.fields.now)) 0) c.in_ok-version.ensures)
    c.in_ok-clock.ensures) c.in_ok-_count.ensures) (subst
    (λ (ss : List Shape). Gives c.args.fields.now (each (placed c.in_ok-version.version c.args.library.now) ss)
    c.in_ok-_count.next c.in_ok-objects.objects c.in_ok-objects.next) c.as_slice.ensures c.in_ok-objects.ensures))
    c.in_ok-_last.ensures)
