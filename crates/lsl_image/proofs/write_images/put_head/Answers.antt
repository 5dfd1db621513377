use Rattle.lsl_image.proofs.SealedLemmas.{put-more}
use Rattle.lsl_image.proofs.write_images.put_head.Goals as goal

pub loop-place-preserved : goal.loop-place-preserved
loop-place-preserved c =
    put-more c.args.head.now c.args.out.now.items c.loop-place.out.items c.loop-place.place c.loop-place-test.true
    c.requires c.loop-place.invariant
