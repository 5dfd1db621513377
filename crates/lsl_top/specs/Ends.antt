-- How a command ends, seen from outside: the contract of the top call as one fact, for its callers.
use Rattle.std.specs.Prelude.{◌≡◌, ◌≤◌, ◌↔◌, ◌⊎◌, ℕ, List, [], ◌++◌, Option, Some, None}
use Rattle.lsl_ports.specs.Counts.{NoneFell, Rose}
use Rattle.lsl_ports.specs.Trips.{Trip, Went}
use Rattle.lsl_ports.specs.Shelf.{Files}
use Rattle.lsl_region.specs.Worlds.{World}
use Rattle.lsl_top.specs.Answers.{Answer, Answers, Due}
use Rattle.lsl_top.specs.Fair.{IsFair}
use Rattle.lsl_top.specs.Headline.{Outputs, WritesLines}
use Rattle.lsl_top.specs.Named.{NamedRose}
use Rattle.lsl_top.specs.Promise.{Keeps, RunsNothing, SendsNothing, WritesNothing}
use Rattle.lsl_top.specs.Status.{number_of}
use Rattle.lsl_top.specs.Words.{Command}
use Rattle.lsl_top.specs.declared.status.Status.{Status}
use Rattle.lsl_top.specs.declared.status.Status.TheVariants.{Usage, ReadFault, WriteFault, NoMemory}

-- what the shelf, the sink and the link report at one moment
pub record Outside : Type 0 where
  pub held : Option Files
  pub read_faults : List ℕ → ℕ
  pub sunk : Option (List ℕ)
  pub write_faults : ℕ
  pub trips : Option (List Trip)
  pub link_faults : ℕ

abbrev pub outside : Option Files → (List ℕ → ℕ) → Option (List ℕ) → ℕ → Option (List Trip) → ℕ → Outside
outside held read_faults sunk write_faults trips link_faults =
    record {
      held = held;
      read_faults = read_faults;
      sunk = sunk;
      write_faults = write_faults;
      trips = trips;
      link_faults = link_faults;
    }

-- no fault of the command's files and of the sink was counted
pub record IsCalm (command : Option Command) (old new : Outside) : Type 0 where
  pub reads : NamedRose old.held command old.read_faults new.read_faults → ⊥
  pub writes : Rose old.write_faults new.write_faults → ⊥

-- the command ended with this status, over a link of a type that may make these trips
pub record Ends (gives : List ℕ → Option (List ℕ) → Type 0) (words : Option Command) (old new : Outside)
    (status : Status) : Type 0 where
  pub usage : (status ≡ Usage) ↔ (words ≡ None)
  pub nothing : WritesNothing status → new.sunk ≡ old.sunk
  pub kept : (trips : List Trip) × Went gives old.trips new.trips trips
      × (SendsNothing status ⊎ RunsNothing words → trips ≡ [])
      × (IsFair words trips → Keeps old.held trips words status old.sunk new.sunk)
  pub read_fault : status ≡ ReadFault → NamedRose old.held words old.read_faults new.read_faults
  pub write_fault : status ≡ WriteFault → Rose old.write_faults new.write_faults
  pub complete : (files : Files) (from : World) (trips : List Trip) (command : Command) (answer : Answer)
      → old.held ≡ Some files → words ≡ Some command → Answers Due (Some files) from trips command answer
      → IsCalm words old new → (status ≡ answer.status) ⊎ (status ≡ NoMemory)
  pub headline : (files : Files) (from : World) (command : Command) (before trips : List Trip) (lines : List ℕ)
      → old.held ≡ Some files → words ≡ Some command → old.trips ≡ Some before
      → new.trips ≡ Some (before ++ trips) → IsFair words trips → Outputs files from command trips lines
      → IsCalm words old new → WritesLines lines status old.sunk new.sunk
  pub unchanged : new.held ≡ old.held
  pub reads_counted : NoneFell old.read_faults new.read_faults
  pub writes_counted : old.write_faults ≤ new.write_faults
  pub links_counted : old.link_faults ≤ new.link_faults

-- the command ended with the status of this number
abbrev pub EndsAs : (List ℕ → Option (List ℕ) → Type 0) → ℕ → Option Command → Outside → Outside → Type 0
EndsAs gives number words old new =
    (status : Status) × (number ≡ number_of status) × Ends gives words old new status
