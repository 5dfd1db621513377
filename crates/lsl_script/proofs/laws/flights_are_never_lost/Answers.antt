use Rattle.lsl_script.proofs.Never.{flights_are_never_lost}
use Rattle.lsl_script.proofs.laws.flights_are_never_lost.Goals as goal

pub returns : goal.returns
returns c = flights_are_never_lost
