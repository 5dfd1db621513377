use Rattle.lsl_image.specs.Bytes.{placed_bytes}
use Rattle.lsl_image.specs.Fits.{FitsPlaced}
use Rattle.lsl_image.proofs.WroteLemmas.{fits-at, item-at, wrote-at}
use Rattle.lsl_image.proofs.write_body.write_objects.Goals as goal

pub loop-object-preserved : goal.loop-object-preserved
loop-object-preserved c =
    let at = item-at c.args.objects.now c.loop-object.object-index c.object-item.result c.loop-object-test.true
    c.object-item.is in
    record {
      written = wrote-at (placed_bytes 2 c.args.library.now) c.args.objects.now c.loop-object.object-index
          c.object-item.result c.args.out.now.items c.loop-object.out.items c.write_placed.new.out.items at
          c.loop-object.invariant.written c.in_ok-write_placed.ensures.ok;
      fits = fits-at (FitsPlaced c.args.library.now) c.args.objects.now c.loop-object.object-index
          c.object-item.result at c.loop-object.invariant.fits c.in_ok-write_placed.ensures.fits;
    }
