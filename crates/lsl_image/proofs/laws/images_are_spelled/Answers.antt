use Rattle.lsl_image.proofs.OneImageLemmas.{object-either, world-either}
use Rattle.lsl_image.proofs.laws.images_are_spelled.Goals as goal

pub returns : goal.returns
returns c = record {
  objects = λ region shape library bytes a image. object-either region shape library bytes a image;
  worlds = λ shapes library bytes a image. world-either shapes library bytes a image;
}
