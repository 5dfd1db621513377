use Rattle.std.proofs.Common.{◌∙◌, ◌+◌, ap, refl, length}
use Rattle.std.specs.Prelude.{codes}
use Rattle.std.proofs.lemmas.Result.{IfOk-weaker}
use Rattle.lsl_image.specs.Bytes.{image_bytes, objects_bytes}
use Rattle.lsl_image.specs.World.{world}
use Rattle.lsl_image.specs.Valid.{shapes_of}
use Rattle.lsl_image.proofs.SpeltImageLemmas.{image-spells, world-spells, ok-both}
use Rattle.lsl_image.proofs.SealedLemmas.{fields-are}
use Rattle.lsl_image.proofs.write_images.write_world.Goals as goal

pub returns-clause-bytes : goal.returns-clause-bytes
returns-clause-bytes c =
    let fields = fields-are c.in_ok-out.out.items c.write_world_fields.new.out.items
    (objects_bytes 2 c.args.library.now c.args.parts.now) c.in_ok-out.ensures
    c.in_ok-write_world_fields.ensures.ok in
    IfOk-weaker c.sealed.result _ _ (λ image is. is ∙ ap (image_bytes (codes "LSLW") 2) fields) c.sealed.ensures.bytes

pub returns-clause-image : goal.returns-clause-image
returns-clause-image c =
    let parts = (objects_bytes 2 c.args.library.now c.args.parts.now) in
    let fields = fields-are c.in_ok-out.out.items c.write_world_fields.new.out.items parts c.in_ok-out.ensures
    c.in_ok-write_world_fields.ensures.ok in
    ok-both c.sealed.result _ _ _ (λ image is small.
    image-spells (world (shapes_of c.args.parts.now) c.args.library.now)
    (codes "LSLW") parts image.items c.args.parts.now refl
    (is ∙ ap (image_bytes (codes "LSLW") 2) fields) small (λ whole few same.
    world-spells c.args.library.now c.args.parts.now (14 + length parts + 32) c.requires
    c.in_ok-write_world_fields.ensures.fits few whole same)) c.sealed.ensures.bytes c.sealed.ensures.small
