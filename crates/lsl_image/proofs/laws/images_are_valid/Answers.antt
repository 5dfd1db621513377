use Rattle.lsl_image.specs.Images.{covered, digested}
use Rattle.lsl_image.proofs.ValidPartLemmas.{object-valid, world-valid}
use Rattle.lsl_image.proofs.laws.images_are_valid.Goals as goal

pub returns : goal.returns
returns c = record {
  objects = λ region shape library bytes a key image.
      object-valid (covered bytes) region shape library (digested bytes) key 0 a (digested bytes)
      (record { gives = image.1 });
  worlds = λ shapes library bytes a keys image.
      world-valid (covered bytes) shapes library (digested bytes) keys 0 a (digested bytes)
      (record { gives = image.1 });
}
