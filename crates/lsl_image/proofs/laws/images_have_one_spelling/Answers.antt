use Rattle.std.proofs.Common.{refl}
use Rattle.std.specs.Prelude.{codes}
use Rattle.lsl_image.proofs.OneImageLemmas.{object-either, object_fields, one-spelling, world-either, world_fields}
use Rattle.lsl_image.proofs.laws.images_have_one_spelling.Goals as goal

pub returns : goal.returns
returns c = record {
  objects = λ region shape library version x y a nx ny image_x image_y.
      one-spelling (codes "LSLO") (object_fields region library a) version x y refl nx ny
      (object-either region shape library x a image_x) (object-either region shape library y a image_y);
  worlds = λ shapes library version x y a nx ny image_x image_y.
      one-spelling (codes "LSLW") (world_fields library a) version x y refl nx ny
      (world-either shapes library x a image_x) (world-either shapes library y a image_y);
}
