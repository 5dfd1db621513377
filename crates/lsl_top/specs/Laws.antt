-- What holds of all answers.
use Rattle.std.specs.Prelude.{◌≡◌, ℕ, List, Option, Some}
use Rattle.lsl_ports.specs.Shelf.{Files}
use Rattle.lsl_ports.specs.Trips.{Trip, Went}
use Rattle.lsl_code.specs.declared.woven_units.Woven.{Woven as Code}
use Rattle.lsl_tree.specs.Program.{Program}
use Rattle.lsl_lines.specs.declared.file.WorldFile.{WorldFile}
use Rattle.lsl_region.specs.Worlds.{World}
use Rattle.lsl_world.specs.Programs.{rules_of}
use Rattle.lsl_world.specs.Travels.{images}
use Rattle.lsl_top.specs.Answers.{Answer, Answers, Grade}
use Rattle.lsl_top.specs.Ends.{Ends, Outside}
use Rattle.lsl_top.specs.Fair.{IsFair}
use Rattle.lsl_top.specs.Froms.{IsFromWords}
use Rattle.lsl_top.specs.Headline.{output_from}
use Rattle.lsl_top.specs.Pieces.{lines_in, pieces_from, sent_in}
use Rattle.lsl_top.specs.Plays.{Last}
use Rattle.lsl_top.specs.Promise.{Keeps, KeepsFrom}
use Rattle.lsl_top.specs.Words.{Command}
use Rattle.lsl_top.specs.declared.status.Status.{Status}

-- over known files, from a world that was frozen before, and with these trips, a command has one answer at most, due or
-- written
abbrev pub AnswersAreOne : Type 0
AnswersAreOne =
    (files : Files) (from : World) (trips : List Trip) (command : Command) (g h : Grade) (a b : Answer)
    → Answers g (Some files) from trips command a → Answers h (Some files) from trips command b → a ≡ b

-- the pieces of a run are its journal over the steps without refused crossings, with what is printed at its end, and
-- they send its images
pub record ArePiecesOf (last : Last) (codes : List Code) (programs : List Program) (file : WorldFile)
    (trips : List Trip) (w : World) : Type 0 where
  pub lines : lines_in (pieces_from last codes (rules_of programs) file.steps trips w)
      ≡ output_from last codes programs file trips w
  pub sent : sent_in (pieces_from last codes (rules_of programs) file.steps trips w)
      ≡ images codes (rules_of programs) file.steps trips w

abbrev pub RunsAreJournals : Type 0
RunsAreJournals =
    (last : Last) (codes : List Code) (programs : List Program) (file : WorldFile) (trips : List Trip) (w : World)
    → ArePiecesOf last codes programs file trips w

-- a link that gives back what it is sent
abbrev pub copies : List ℕ → Option (List ℕ) → Type 0
copies sent back = back ≡ Some sent

-- over such a link what comes back is fair, whatever is played
abbrev pub CopiesAreFair : Type 0
CopiesAreFair =
    (words : Option Command) (old new : Option (List Trip)) (trips : List Trip) → Went copies old new trips
    → IsFair words trips

-- so a command's promise holds over it without a premise on what comes back
abbrev pub CopiesKeep : Type 0
CopiesKeep =
    (words : Option Command) (old new : Outside) (status : Status) → Ends copies words old new status
    → (trips : List Trip) × Went copies old.trips new.trips trips
    × Keeps old.held trips words status old.sunk new.sunk

-- What a command promises with the texts that were read, it promises from each world that can have been frozen, by all
-- texts that the files can have.
abbrev pub KeptFromEach : Type 0
KeptFromEach =
    (held : Option Files) (trips : List Trip) (words : Option Command) (status : Status) (old new : Option (List ℕ))
    → Keeps held trips words status old new → (from : World) → IsFromWords held words from
    → KeepsFrom held from trips words status old new
