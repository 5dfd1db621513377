-- What the shelf, the sink and the link report at one moment, and the result of a call over them: for private
-- functions.
use Rattle.std.specs.Prelude.{◌≡◌, ◌≢◌, ℕ, ◌≤◌, List, [], Option, Result, Ok as OkResult, Err, OnOk, IsErrOf}
use Rattle.std.specs.List.{AllZip}
use Rattle.lsl_ports.specs.Counts.{NoneFell, Rose}
use Rattle.lsl_ports.specs.Shelf.{Files, IsHead}
use Rattle.lsl_ports.specs.declared.reading.ShelfFault.{ShelfFault}
use Rattle.lsl_ports.specs.declared.reading.ShelfFault.TheVariants.{Failed, NoMemory as OutOfMemory}
use Rattle.lsl_ports.specs.Growth.{Grew, GrewPartly}
use Rattle.lsl_ports.specs.Trips.{Trip, Went}
use Rattle.lsl_region.specs.Worlds.{World}
use Rattle.lsl_top.specs.Answers.{Answer, Grade, Due}
use Rattle.lsl_top.specs.Plays.{Mode, Whole, Handing, Freezing, Inspecting, Thawing, Viewing, Play, Read}
use Rattle.lsl_top.specs.Promise.{KeepsTo, SendsNothing}
use Rattle.lsl_top.specs.Words.{Command, Once, Check, Replay, Lossy, Freeze, Thaw, View, Make, State}
use Rattle.lsl_top.specs.declared.status.Status.{Status}
use Rattle.lsl_top.specs.declared.status.Status.TheVariants as statuses
use Rattle.lsl_top.specs.declared.writing.Trouble.{Trouble}
use Rattle.lsl_top.specs.declared.writing.Trouble.TheVariants.{WriteFault, NoMemory}

-- what was read of the file of a script or a notecard: all of it, or one byte more than one may have
abbrev pub IsRead : Option Files → List ℕ → List ℕ → Type 0
IsRead held name bytes = IsHead held name 65536 bytes

-- what was read of a frozen file: all of it, or one byte more than it may have
abbrev pub IsFrozenRead : Option Files → Mode → List ℕ → Type 0
IsFrozenRead held Whole bytes = Unit {0}
IsFrozenRead held Handing bytes = Unit {0}
IsFrozenRead held Freezing bytes = Unit {0}
IsFrozenRead held (Inspecting at) bytes = Unit {0}
IsFrozenRead held (Thawing name) bytes = IsHead held name 2147483647 bytes
IsFrozenRead held (Viewing name) bytes = IsHead held name 2147483647 bytes

-- what was read of a play's files
pub record WasRead (held : Option Files) (play : Play) (read : Read) : Type 0 where
  pub scripts : AllZip (IsRead held) play.names read.texts
  pub cards : AllZip (IsRead held) play.cards read.notes
  pub frozen : IsFrozenRead held play.mode read.frozen

-- what a link may give back in a play: where no world is run nothing is sent over it
abbrev pub gives_in : Mode → (List ℕ → Option (List ℕ) → Type 0) → List ℕ → Option (List ℕ) → Type 0
gives_in Whole gives = gives
gives_in Handing gives = gives
gives_in Freezing gives = gives
gives_in (Inspecting at) gives = gives
gives_in (Thawing name) gives = gives
gives_in (Viewing name) gives = λ sent back. ⊥

-- and by a command
abbrev pub gives_by : Command → (List ℕ → Option (List ℕ) → Type 0) → List ℕ → Option (List ℕ) → Type 0
gives_by (Once name) gives = gives
gives_by (Check name) gives = λ sent back. ⊥
gives_by (Replay name) gives = gives
gives_by (Lossy name) gives = gives
gives_by (Freeze name) gives = gives
gives_by (Thaw frozen name) gives = gives
gives_by (View frozen name) gives = λ sent back. ⊥
gives_by (Make number) gives = gives
gives_by (State at name) gives = gives

-- what the sink reports
pub record Log : Type 0 where
  pub sunk : Option (List ℕ)
  pub faults : ℕ

abbrev pub log : Option (List ℕ) → ℕ → Log
log sunk faults = record { sunk = sunk; faults = faults }

-- what the link reports
pub record Wire : Type 0 where
  pub told : Option (List Trip)
  pub faults : ℕ

abbrev pub wire : Option (List Trip) → ℕ → Wire
wire told faults = record { told = told; faults = faults }

-- these lines were written, all of them at Ok and otherwise a prefix; a write failed only if the count rose
pub record Writes {T : Type 0} (lines : List ℕ) (old new : Log) (result : Result T Trouble) : Type 0 where
  pub ok : OnOk result (Grew old.sunk new.sunk lines)
  pub part : GrewPartly old.sunk new.sunk lines
  pub counted : old.faults ≤ new.faults
  pub cause : IsErrOf result WriteFault → Rose old.faults new.faults

-- the status of what was written: its own where all of it was
abbrev pub status_after : {T : Type 0} → Result T Trouble → Status → Status
status_after (OkResult t) status = status
status_after (Err WriteFault) status = statuses.WriteFault
status_after (Err NoMemory) status = statuses.NoMemory

-- the statuses that answers have
abbrev pub IsOwn : Status → Type 0
IsOwn statuses.Ok = Unit {0}
IsOwn statuses.BadWorld = Unit {0}
IsOwn statuses.BadScript = Unit {0}
IsOwn statuses.BadImage = Unit {0}
IsOwn statuses.BadNote = Unit {0}
IsOwn statuses.Usage = ⊥
IsOwn statuses.ReadFault = ⊥
IsOwn statuses.WriteFault = ⊥
IsOwn statuses.NoMemory = ⊥

-- there is an answer of this status
abbrev pub HasAnswer : (Answer → Type 0) → Status → Type 0
HasAnswer IsAnswer status = (answer : Answer) × IsAnswer answer × (answer.status ≡ status)

-- an answer was written, as far as the status says, and nothing was sent over the link
pub record Finishes (IsAnswer : Answer → Type 0) (old new : Log) (status : Status) : Type 0 where
  pub keeps : KeepsTo (λ grade. IsAnswer) status [] old.sunk new.sunk
  pub answers : IsOwn status → HasAnswer IsAnswer status
  pub counted : old.faults ≤ new.faults
  pub cause : status ≡ statuses.WriteFault → Rose old.faults new.faults
  pub no_read : status ≢ statuses.ReadFault
  pub no_usage : status ≢ statuses.Usage

-- an answer by the trips that were made was written and sent, as far as the status says, from each world that can have
-- been frozen, where what came back is fair
pub record Concludes (gives : List ℕ → Option (List ℕ) → Type 0) (IsFair : List Trip → Type 0)
    (Fits : World → Type 0) (IsAnswer : Grade → World → List Trip → Answer → Type 0) (old new : Log)
    (before after : Wire)
    (status : Status) : Type 0
  where
    pub trips : List Trip
    pub went : Went gives before.told after.told trips
    pub silent : SendsNothing status → trips ≡ []
    pub keeps : (from : World) → Fits from → IsFair trips
        → KeepsTo (λ grade. IsAnswer grade from trips) status trips old.sunk new.sunk
    pub answers : (from : World) (trips : List Trip) → IsOwn status → HasAnswer (IsAnswer Due from trips) status
    pub counted : old.faults ≤ new.faults
    pub links_counted : before.faults ≤ after.faults
    pub cause : status ≡ statuses.WriteFault → Rose old.faults new.faults
    pub no_read : status ≢ statuses.ReadFault
    pub no_usage : status ≢ statuses.Usage

-- what the shelf, the sink and the link report
pub record Ports : Type 0 where
  pub held : Option Files
  pub read_faults : List ℕ → ℕ
  pub log : Log
  pub wire : Wire

abbrev pub ports : Option Files → (List ℕ → ℕ) → Option (List ℕ) → ℕ → Option (List Trip) → ℕ → Ports
ports held read_faults sunk write_faults told link_faults =
    record {
      held = held;
      read_faults = read_faults;
      log = log sunk write_faults;
      wire = wire told link_faults;
    }

-- what a command promises by the trips that were made
abbrev pub Keeping : Type 1
Keeping = List Trip → Status → Option (List ℕ) → Option (List ℕ) → Type 0

-- like `Concludes`, after files of these names were read
pub record Serves (gives : List ℕ → Option (List ℕ) → Type 0) (IsFair : List Trip → Type 0) (Kept : Keeping)
    (IsAnswer : Grade → World → List Trip → Answer → Type 0) (IsName : List ℕ → Type 0) (old new : Ports)
    (status : Status) : Type 0
  where
    pub trips : List Trip
    pub went : Went gives old.wire.told new.wire.told trips
    pub silent : SendsNothing status → trips ≡ []
    pub keeps : IsFair trips → Kept trips status old.log.sunk new.log.sunk
    pub answers : (from : World) (trips : List Trip) → IsOwn status → HasAnswer (IsAnswer Due from trips) status
    pub nothing : status ≡ statuses.ReadFault → new.log.sunk ≡ old.log.sunk
    pub read_fault : status ≡ statuses.ReadFault
        → (name : List ℕ) × IsName name × Rose (old.read_faults name) (new.read_faults name)
    pub write_fault : status ≡ statuses.WriteFault → Rose old.log.faults new.log.faults
    pub no_usage : status ≢ statuses.Usage
    pub unchanged : new.held ≡ old.held
    pub reads_counted : NoneFell old.read_faults new.read_faults
    pub writes_counted : old.log.faults ≤ new.log.faults
    pub links_counted : old.wire.faults ≤ new.wire.faults

-- the status of a file that wasn't read
abbrev pub unread_status : ShelfFault → Status
unread_status Failed = statuses.ReadFault
unread_status OutOfMemory = statuses.NoMemory
