use Rattle.lsl_image.specs.Object.{object}
use Rattle.lsl_image.specs.World.{world}
use Rattle.lsl_image.proofs.ImageLemmas.{image-no_fault}
use Rattle.lsl_image.proofs.laws.images_have_no_fault.Goals as goal

pub returns : goal.returns
returns c = record {
  objects = λ region shape library bytes a fault g f. image-no_fault (object region shape library) bytes a fault g f;
  worlds = λ shapes library bytes a fault g f. image-no_fault (world shapes library) bytes a fault g f;
}
