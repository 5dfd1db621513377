-- How a trace ends before anything is written.
use Rattle.std.specs.Prelude.{◌≡◌, ◌⊎◌}
use Rattle.lsl_top.specs.declared.status.Status.TheVariants.{ReadFault, NoMemory}
use Rattle.lsl_trace.specs.declared.ended.Ended.{Ended}
use Rattle.lsl_trace.specs.declared.ended.Ended.TheVariants.{Told, Refused, TooLong}

-- a journal is too long, or it is out of memory, or a file can't be read again
abbrev pub StopsEarly : Ended → Type 0
StopsEarly Told = ⊥
StopsEarly (Refused status) = (status ≡ NoMemory) ⊎ (status ≡ ReadFault)
StopsEarly TooLong = Unit {0}
