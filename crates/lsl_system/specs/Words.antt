-- How the process ends where the system gives no words of a command.
use Rattle.std.specs.Prelude.{◌≡◌, ◌≢◌, ℕ, List, [], Option}
use Rattle.std.specs.declared.io.ErrorKind.{ErrorKind}
use Rattle.std.specs.declared.io.ErrorKind.TheVariants.{OutOfMemory}
use Rattle.lsl_ports.specs.Growth.{Grew}
use Rattle.lsl_top.specs.Status.{number_of}
use Rattle.lsl_top.specs.declared.status.Status.TheVariants.{NoMemory}
use Rattle.lsl_system.specs.Notice.{meaning_of, no_words}

-- when out of memory as a command does that is, and otherwise with a number that no status has
pub record IsRefusal (kind : ErrorKind) (number : ℕ) : Type 0 where
  pub memory : kind ≡ OutOfMemory → number ≡ number_of NoMemory
  pub unread : kind ≢ OutOfMemory → number ≡ 9

-- the notes grew by the line of that
pub record IsRefusalTold (kind : ErrorKind) (old new : Option (List ℕ)) : Type 0 where
  pub memory : kind ≡ OutOfMemory → Grew old new (meaning_of [] NoMemory)
  pub unread : kind ≢ OutOfMemory → Grew old new no_words
