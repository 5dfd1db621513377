use Rattle.lsl_weave.proofs.Made.{weaving_makes_woven}
use Rattle.lsl_weave.proofs.woven_laws.weaving_makes_woven.Goals as goal

pub returns : goal.returns
returns c = weaving_makes_woven
