use Rattle.std.proofs.Common.{◌≡◌, refl, ap, ◌∙◌, subst}
use Rattle.hex.specs.Hex.{IsBytes}
use Rattle.lsl_image.specs.declared.parts.WorldParts.{WorldParts}
use Rattle.lsl_image.specs.Bytes.{world_image}
use Rattle.lsl_world.specs.Frozen.{frozen_image}
use Rattle.lsl_top.proofs.Frozen.{frozen-well}
use Rattle.lsl_top.proofs.Lasting.{line-frozen-well}
use Rattle.lsl_top.proofs.report.frozen_line.Goals as goal

pub returns : goal.returns
returns c = λ programs w is.
    let world = c.args.world.now in
    let codes = world.units in
    let image = c.in_ok-image.image.items in
    let frozen = c.in_ok-image.ensures in
    let parts = frozen.of programs w is in
    let same : image ≡ frozen_image codes w =
    frozen.bytes ∙ ap (λ (p : WorldParts). world_image 2 codes p) parts in
    let slice = c.as_slice.ensures.value in
    line-frozen-well codes programs w c.image_line.result c.as_slice.result.now (slice ∙ same)
    c.image_line.ensures.line
    (frozen-well codes programs world w image refl is same parts frozen.image
    (subst IsBytes slice c.image_line.ensures.bytes))
