-- How a request ended, seen from its page.
use Rattle.std.specs.Prelude.{◌≡◌, ◌<◌, ℕ, List, [], ◌∷◌, length, Option, Some, None}
use Rattle.lsl_ports.specs.Shelf.{Files}
use Rattle.lsl_top.specs.Ends.{Ends, Outside, outside}
use Rattle.lsl_top.specs.Laws.{copies}
use Rattle.lsl_top.specs.Status.{number_of}
use Rattle.lsl_top.specs.Words.{Command, command_in}
use Rattle.lsl_top.specs.declared.status.Status.{Status}
use Rattle.lsl_page.specs.Faults.{faults_in}
use Rattle.lsl_page.specs.Request.{IsRequest, files_in}
use Rattle.lsl_page.specs.declared.place.Place.{Place}

-- What is known of a request: its files, the number of reads of a file that isn't one of them, what was written, and
-- the number of writes into a full buffer. The link reports nothing.
abbrev pub outside_of : Files → ℕ → List ℕ → ℕ → Outside
outside_of files missed output refused = outside (Some files) (faults_in files missed) (Some output) refused None 0

-- How the command ended over these files, with this output in a buffer of this many bytes: as the top call says over a
-- link that returns what it is sent, if nothing had been read and written before.
pub record Ended (files : Files) (words : Option Command) (room : ℕ) (status : Status) (output : List ℕ) : Type 0
  where
    pub missed : ℕ
    pub refused : ℕ
    pub ends : Ends copies words (outside_of files 0 [] 0) (outside_of files missed output refused) status
    -- a write failed only if the buffer was full
    pub full : 0 < refused → length output ≡ room

-- the request is in its form, and its command ended with the status of this number
abbrev pub EndedAs : List ℕ → List ℕ → List ℕ → List Place → ℕ → ℕ → List ℕ → Type 0
EndedAs word file bytes places number room output =
    IsRequest word file bytes places
    × ((status : Status) × (number ≡ number_of status)
    × Ended (files_in bytes places) (command_in (word ∷ file ∷ [])) room status output)
