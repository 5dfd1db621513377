use Rattle.lsl_image.specs.World.{placed}
use Rattle.lsl_image.proofs.EachLemmas.{each-at, each-full, each-more, each-start, each-stops}
use Rattle.lsl_image.proofs.world.read_objects.Goals as goal

pub loop-shape-init : goal.loop-shape-init
loop-shape-init c = each-start c.args.bytes.now (placed c.args.version c.args.library.now) c.args.shapes.now
    c.args.place _ c.new-objects.ensures

pub loop-shape-preserved : goal.loop-shape-preserved
loop-shape-preserved c =
    each-more (placed c.args.version c.args.library.now) c.args.shapes.now c.loop-shape.objects c.push.new.self
    c.loop-shape.shape-index _ c.in_ok-object.object (each-at c.args.shapes.now c.loop-shape.shape-index
    c.shape-item.result c.loop-shape-test.true c.shape-item.is) c.in_ok-push.ensures.ok
    c.loop-shape.invariant c.in_ok-object.ensures

pub returns-in_err-object : goal.returns-in_err-object
returns-in_err-object c =
    each-stops (placed c.args.version c.args.library.now) c.args.shapes.now c.loop-shape.objects
    c.loop-shape.shape-index _ _ _
    (each-at c.args.shapes.now c.loop-shape.shape-index c.shape-item.result c.loop-shape-test.true c.shape-item.is)
    c.loop-shape.invariant c.in_err-object.ensures c.from_residual.ensures.1

pub returns : goal.returns
returns c = each-full (placed c.args.version c.args.library.now) c.args.shapes.now c.loop-shape.objects
    c.loop-shape.shape-index
    c.loop-shape-test.false c.loop-shape.invariant
