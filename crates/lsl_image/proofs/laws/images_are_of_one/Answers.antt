use Rattle.lsl_image.specs.Object.{object}
use Rattle.lsl_image.specs.World.{world}
use Rattle.lsl_image.proofs.ImageLemmas.{image-one}
use Rattle.lsl_image.proofs.laws.images_are_of_one.Goals as goal

pub returns : goal.returns
returns c = record {
  objects = λ region shape library bytes a b g h. image-one (object region shape library) bytes a b g h;
  worlds = λ shapes library bytes a b g h. image-one (world shapes library) bytes a b g h;
}
