-- The numbers of faults of names and kinds.
use Rattle.std.specs.Prelude.{ℕ}
use Rattle.lsl_bodies.specs.declared.faults.TypeKind.{TypeKind}
use Rattle.lsl_bodies.specs.declared.faults.TypeKind.TheVariants.{UnknownName, DoubleName, WrongKind, NoOperator, NoCast}
use Rattle.lsl_bodies.specs.declared.faults.TypeKind.TheVariants.{WrongCount, NotVariable, NotConstant, StateInFunction}
use Rattle.lsl_bodies.specs.declared.faults.TypeKind.TheVariants.{UnknownLabel, WrongHandler, VoidUsed}

abbrev pub number_of : TypeKind → ℕ
number_of UnknownName = 20
number_of DoubleName = 21
number_of (WrongKind wanted found) = 22
number_of NoOperator = 23
number_of NoCast = 24
number_of WrongCount = 25
number_of NotVariable = 26
number_of NotConstant = 27
number_of StateInFunction = 28
number_of UnknownLabel = 29
number_of WrongHandler = 30
number_of VoidUsed = 31
