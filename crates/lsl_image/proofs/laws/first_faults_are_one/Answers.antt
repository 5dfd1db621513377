use Rattle.lsl_image.specs.Object.{object}
use Rattle.lsl_image.specs.World.{world}
use Rattle.lsl_image.proofs.ImageLemmas.{first-one}
use Rattle.lsl_image.proofs.laws.first_faults_are_one.Goals as goal

pub returns : goal.returns
returns c = record {
  objects = λ region shape library bytes a b f g. first-one (object region shape library) bytes a b f g;
  worlds = λ shapes library bytes a b f g. first-one (world shapes library) bytes a b f g;
}
