use Rattle.lsl_region.proofs.TellingLaws.{calls-answered}
use Rattle.lsl_region.proofs.laws.calls_are_answered.Goals as goal

pub returns : goal.returns
returns c = calls-answered
