use Rattle.lsl_gen.proofs.Fitting.{gives_units}
use Rattle.lsl_gen.proofs.laws.units_are_well_formed.Goals as goal

pub returns : goal.returns
returns c = gives_units
