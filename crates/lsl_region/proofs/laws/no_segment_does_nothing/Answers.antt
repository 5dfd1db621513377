use Rattle.std.proofs.Common.{refl}
use Rattle.lsl_post.specs.Told.{until}
use Rattle.lsl_region.proofs.laws.no_segment_does_nothing.Goals as goal

pub returns : goal.returns
unfolding until
returns c = λ r place w. refl
