-- What the sink has taken, and what was sent over the link, at each status.
use Rattle.std.specs.Prelude.{◌≡◌, ◌⊎◌, ℕ, suc, ◌<◌, List, [], length, take, Option, Some, None}
use Rattle.lsl_ports.specs.Growth.{Begins, Grew}
use Rattle.lsl_ports.specs.Shelf.{Files}
use Rattle.lsl_ports.specs.Trips.{Trip, sent_of}
use Rattle.lsl_region.specs.Worlds.{World}
use Rattle.lsl_lines.specs.World.{FileFirst, IsWorld}
use Rattle.lsl_lines.specs.declared.faults.FileFault.{FileFault}
use Rattle.lsl_lines.specs.declared.file.WorldFile.{WorldFile}
use Rattle.lsl_top.specs.Answers.{Answer, Answers, Checks, Due, Grade, Makes, PlaysRead, Written, world_refused}
use Rattle.lsl_top.specs.Froms.{IsFromRead}
use Rattle.lsl_top.specs.Held.{AreRead, Holds}
use Rattle.lsl_top.specs.Pieces.{Piece, lines_in, sent_in}
use Rattle.lsl_top.specs.Plays.{Mode, Whole, Handing, Freezing, Inspecting, Thawing, Viewing, Play, Read, file_in, play_of, play_of_once}
use Rattle.lsl_top.specs.Words.{Command, Once, Check, Replay, Lossy, Freeze, Thaw, View, Make, State}
use Rattle.lsl_top.specs.declared.status.Status.{Status}
use Rattle.lsl_top.specs.declared.status.Status.TheVariants.{Ok, Usage, BadWorld, BadScript, ReadFault, WriteFault, BadImage, NoMemory, BadNote}

-- all of these pieces were written, and all that they send was sent
pub record IsWhole (pieces : List Piece) (trips : List Trip) (old new : Option (List ℕ)) : Type 0 where
  pub written : Grew old new (lines_in pieces)
  pub sent : sent_of trips ≡ sent_in pieces

-- `done` pieces were written whole, and then a prefix of the next one; a prefix of what these and the next one send was
-- sent. So all lines before the last piece of which something was sent were written.
pub record IsBegunAt (done : ℕ) (pieces : List Piece) (trips : List Trip) (old new : Option (List ℕ)) : Type 0 where
  pub within : done < length pieces
  pub added : List ℕ
  pub grew : Grew old new added
  pub written : Begins (lines_in (take done pieces)) added
  pub part : Begins added (lines_in (take (suc done) pieces))
  pub sent : Begins (sent_of trips) (sent_in (take (suc done) pieces))

abbrev pub IsBegun : List Piece → List Trip → Option (List ℕ) → Option (List ℕ) → Type 0
IsBegun pieces trips old new = (done : ℕ) × IsBegunAt done pieces trips old new

-- an answer of this status was written and sent whole
abbrev pub Wrote : (Answer → Type 0) → Status → List Trip → Option (List ℕ) → Option (List ℕ) → Type 0
Wrote IsAnswer status trips old new =
    (answer : Answer) × IsAnswer answer × (answer.status ≡ status) × IsWhole answer.pieces trips old new

-- a prefix of an answer was written and sent
abbrev pub WrotePart : (Answer → Type 0) → List Trip → Option (List ℕ) → Option (List ℕ) → Type 0
WrotePart IsAnswer trips old new =
    (answer : Answer) × IsAnswer answer × IsBegun answer.pieces trips old new

-- a status of an answer's own comes with the whole answer; after a failed write, or when out of memory, a prefix of it
-- was written
abbrev pub KeepsTo : (Grade → Answer → Type 0) → Status → List Trip → Option (List ℕ) → Option (List ℕ) → Type 0
KeepsTo IsAnswer Ok trips old new = Wrote (IsAnswer Written) Ok trips old new
KeepsTo IsAnswer BadWorld trips old new = Wrote (IsAnswer Written) BadWorld trips old new
KeepsTo IsAnswer BadScript trips old new = Wrote (IsAnswer Written) BadScript trips old new
KeepsTo IsAnswer BadImage trips old new = Wrote (IsAnswer Written) BadImage trips old new
KeepsTo IsAnswer BadNote trips old new = Wrote (IsAnswer Written) BadNote trips old new
KeepsTo IsAnswer WriteFault trips old new = WrotePart (IsAnswer Due) trips old new
KeepsTo IsAnswer NoMemory trips old new = ((new ≡ old) × (trips ≡ [])) ⊎ WrotePart (IsAnswer Due) trips old new
KeepsTo IsAnswer Usage trips old new = Unit {0}
KeepsTo IsAnswer ReadFault trips old new = Unit {0}

-- No answer was begun: at ReadFault, and when out of memory before anything was written and sent. This is said with the
-- texts that were read, if all were; then from each world that can have been frozen by them an answer was written.
abbrev pub KeepsPlay : Option Files → List Trip → Play → Status → Option (List ℕ) → Option (List ℕ) → Type 0
KeepsPlay held trips play status old new =
    KeepsTo (λ grade answer. ⊥) status trips old new
    ⊎ ((read : Read) × AreRead held play read
    × ((from : World) → IsFromRead play read from
    → KeepsTo (λ grade. PlaysRead grade from trips play read) status trips old new))

-- what the file of that name has isn't a world, and is refused
abbrev pub RefusesWorld : Option Files → List ℕ → Answer → Type 0
RefusesWorld held name answer =
    (bytes : List ℕ) × (fault : FileFault) × Holds held name bytes × FileFirst bytes fault
    × (answer ≡ world_refused name fault)

-- the promise of a world file that is read, and played in this mode
abbrev pub KeepsFile : Option Files → List Trip → Mode → List ℕ → Status → Option (List ℕ) → Option (List ℕ) → Type 0
KeepsFile held trips mode name status old new =
    KeepsTo (λ grade. RefusesWorld held name) status trips old new
    ⊎ ((bytes : List ℕ) × (file : WorldFile) × Holds held name bytes × IsWorld bytes file
    × KeepsPlay held trips (play_of mode (file_in mode file)) status old new)

-- the promise of a command; `check` plays nothing, and the two texts of a seed are known
abbrev pub KeepsOf : Option Files → List Trip → Command → Status → Option (List ℕ) → Option (List ℕ) → Type 0
KeepsOf held trips (Once name) status old new = KeepsPlay held trips (play_of_once name) status old new
KeepsOf held trips (Check name) status old new =
    KeepsTo (λ grade answer. (text : List ℕ) × Holds held name text × Checks name text answer) status trips old new
KeepsOf held trips (Replay name) status old new = KeepsFile held trips Whole name status old new
KeepsOf held trips (Lossy name) status old new = KeepsFile held trips Handing name status old new
KeepsOf held trips (Freeze name) status old new = KeepsFile held trips Freezing name status old new
KeepsOf held trips (Thaw frozen name) status old new = KeepsFile held trips (Thawing frozen) name status old new
KeepsOf held trips (View frozen name) status old new = KeepsFile held trips (Viewing frozen) name status old new
KeepsOf held trips (State at name) status old new = KeepsFile held trips (Inspecting at) name status old new
KeepsOf held trips (Make number) status old new =
    (from : World) → KeepsTo (λ grade. Makes grade from trips number) status trips old new

abbrev pub Keeps : Option Files → List Trip → Option Command → Status → Option (List ℕ) → Option (List ℕ) → Type 0
Keeps held trips None status old new = Unit {0}
Keeps held trips (Some command) status old new = KeepsOf held trips command status old new

-- the promise from one world: an answer of the command from it
abbrev pub KeepsFrom : Option Files → World → List Trip → Option Command → Status → Option (List ℕ) → Option (List ℕ)
    → Type 0
KeepsFrom held from trips None status old new = Unit {0}
KeepsFrom held from trips (Some command) status old new =
    KeepsTo (λ grade. Answers grade held from trips command) status trips old new

-- the statuses at which nothing was sent, whatever came back
abbrev pub SendsNothing : Status → Type 0
SendsNothing Usage = Unit {0}
SendsNothing BadWorld = Unit {0}
SendsNothing BadScript = Unit {0}
SendsNothing ReadFault = Unit {0}
SendsNothing BadImage = Unit {0}
SendsNothing BadNote = Unit {0}
SendsNothing Ok = ⊥
SendsNothing WriteFault = ⊥
SendsNothing NoMemory = ⊥

-- the commands that run no world: they send nothing, at any status
abbrev pub RunsNothing : Option Command → Type 0
RunsNothing None = Unit {0}
RunsNothing (Some (Once name)) = ⊥
RunsNothing (Some (Check name)) = Unit {0}
RunsNothing (Some (Replay name)) = ⊥
RunsNothing (Some (Lossy name)) = ⊥
RunsNothing (Some (Freeze name)) = ⊥
RunsNothing (Some (Thaw frozen name)) = ⊥
RunsNothing (Some (View frozen name)) = Unit {0}
RunsNothing (Some (Make number)) = ⊥
RunsNothing (Some (State at name)) = ⊥

-- the statuses at which nothing was written
abbrev pub WritesNothing : Status → Type 0
WritesNothing Usage = Unit {0}
WritesNothing ReadFault = Unit {0}
WritesNothing Ok = ⊥
WritesNothing BadWorld = ⊥
WritesNothing BadScript = ⊥
WritesNothing WriteFault = ⊥
WritesNothing BadImage = ⊥
WritesNothing BadNote = ⊥
WritesNothing NoMemory = ⊥
