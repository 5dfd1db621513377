-- The numbers of syntax faults.
use Rattle.std.specs.Prelude.{ℕ}
use Rattle.lsl_parse.specs.declared.fault.ParseKind.{ParseKind}
use Rattle.lsl_parse.specs.declared.fault.ParseKind.TheVariants.{Unexpected, EndOfText, FloatType, TooDeep, TooLarge}

abbrev pub number_of : ParseKind → ℕ
number_of Unexpected = 10
number_of EndOfText = 11
number_of FloatType = 12
number_of TooDeep = 13
number_of TooLarge = 14
