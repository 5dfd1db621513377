use Rattle.lsl_image.proofs.DecidedLemmas.{object-decided, world-decided}
use Rattle.lsl_image.proofs.laws.images_or_faults.Goals as goal

pub returns : goal.returns
returns c = record {
  objects = λ region shape library bytes are. object-decided region shape library bytes are;
  worlds = λ shapes library bytes are. world-decided shapes library bytes are;
}
