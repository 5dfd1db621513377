use Rattle.lsl_code.proofs.UnitTold.{fits_tells, woven_tells}
use Rattle.lsl_code.proofs.laws.units_are_well_formed.Goals as goal

pub returns-clause-plain : goal.returns-clause-plain
returns-clause-plain c = fits_tells

pub returns-clause-woven : goal.returns-clause-woven
returns-clause-woven c = woven_tells
