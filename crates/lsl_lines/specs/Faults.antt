-- The numbers of faults.
use Rattle.std.specs.Prelude.{ℕ}
use Rattle.lsl_lines.specs.declared.faults.FileKind.{FileKind}
use Rattle.lsl_lines.specs.declared.faults.FileKind.TheVariants.{BadLine, NoBegin, NoEnd, Unknown, TooMany, ClockBack, TooLong, DoubleKey}

abbrev pub number_of_kind : FileKind → ℕ
number_of_kind BadLine = 50
number_of_kind NoBegin = 51
number_of_kind NoEnd = 52
number_of_kind Unknown = 53
number_of_kind TooMany = 54
number_of_kind ClockBack = 55
number_of_kind TooLong = 56
number_of_kind DoubleKey = 57
