-- The numbers of the statuses.
use Rattle.std.specs.Prelude.{ℕ}
use Rattle.lsl_top.specs.declared.status.Status.{Status}
use Rattle.lsl_top.specs.declared.status.Status.TheVariants.{Ok, Usage, BadWorld, BadScript, ReadFault, WriteFault, BadImage, NoMemory, BadNote}

abbrev pub number_of : Status → ℕ
number_of Ok = 0
number_of Usage = 1
number_of BadWorld = 2
number_of BadScript = 3
number_of ReadFault = 4
number_of WriteFault = 5
number_of BadImage = 6
number_of NoMemory = 7
number_of BadNote = 8
