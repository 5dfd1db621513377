use Rattle.lsl_region.proofs.TellingLaws.{negative-none, numbers-beyond, object-told, own-by-this, own-prim, prims-by-number}
use Rattle.lsl_region.proofs.laws.prims_are_told.Goals as goal

pub returns-clause-own : goal.returns-clause-own
returns-clause-own c = own-prim

pub returns-clause-object : goal.returns-clause-object
returns-clause-object c = object-told

pub returns-clause-numbered : goal.returns-clause-numbered
returns-clause-numbered c = prims-by-number

pub returns-clause-this : goal.returns-clause-this
returns-clause-this c = own-by-this

pub returns-clause-beyond : goal.returns-clause-beyond
returns-clause-beyond c = numbers-beyond

pub returns-clause-negative : goal.returns-clause-negative
returns-clause-negative c = negative-none
