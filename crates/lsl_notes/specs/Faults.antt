-- Faults as they are printed.
use Rattle.std.specs.Prelude.{ℕ}
use Rattle.lsl_notes.specs.declared.faults.CardFault.{CardFault}
use Rattle.lsl_notes.specs.declared.faults.CardFault.TheVariants.{NotText, TooLong}

abbrev pub number_of_fault : CardFault → ℕ
number_of_fault (NotText line) = 60
number_of_fault TooLong = 61

abbrev pub line_of_fault : CardFault → ℕ
line_of_fault (NotText line) = line
line_of_fault TooLong = 0
