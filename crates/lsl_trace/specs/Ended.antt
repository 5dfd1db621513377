-- How a trace ends, and what was written.
use Rattle.std.specs.Prelude.{◌≡◌, ◌⊎◌, ℕ, List, [], ◌∷◌, codes, Option, Some}
use Rattle.lsl_ports.specs.Counts.{Rose}
use Rattle.lsl_ports.specs.Growth.{Grew, GrewPartly}
use Rattle.lsl_top.specs.Ends.{Ends, Outside}
use Rattle.lsl_top.specs.Words.{Command, command_in}
use Rattle.lsl_top.specs.declared.status.Status.{Status}
use Rattle.lsl_top.specs.declared.status.Status.TheVariants.{Ok, ReadFault, WriteFault, NoMemory}
use Rattle.lsl_trace.specs.Early.{StopsEarly}
use Rattle.lsl_trace.specs.Texts.{Traces}
use Rattle.lsl_trace.specs.declared.ended.Request.{Request}
use Rattle.lsl_trace.specs.declared.ended.Ended.{Ended}
use Rattle.lsl_trace.specs.declared.ended.Ended.TheVariants.{Told, Refused, TooLong}

-- what the words ask for that replay the world of a file
abbrev pub replay_of : List ℕ → Option Command
replay_of world = command_in (codes "replay" ∷ world ∷ [])

-- the same outside, with a sink that has taken nothing
abbrev pub emptied : Outside → Outside
emptied o =
    record {
      held = o.held;
      read_faults = o.read_faults;
      sunk = Some [];
      write_faults = 0;
      trips = o.trips;
      link_faults = o.link_faults;
    }

-- replayed over this outside, the world ends with this status, and this was written
pub record Replays (gives : List ℕ → Option (List ℕ) → Type 0) (world : List ℕ) (before : Outside) (status : Status)
    (written : List ℕ) : Type 0 where
  pub after : Outside
  pub ends : Ends gives (replay_of world) (emptied before) after status
  pub sunk : after.sunk ≡ Some written

-- the text traces this journal, for the steps of the request
abbrev pub TracesIn : Request → List ℕ → List ℕ → Type 0
TracesIn request journal text = Traces request.first request.last journal text

-- what a sink reports
pub record Taken : Type 0 where
  pub bytes : Option (List ℕ)
  pub faults : ℕ

abbrev pub taken : Option (List ℕ) → ℕ → Taken
taken bytes faults = record { bytes = bytes; faults = faults }

-- a prefix of these bytes was written, and then the sink failed
pub record Breaks (bytes : List ℕ) (old new : Taken) : Type 0 where
  pub part : GrewPartly old.bytes new.bytes bytes
  pub rose : Rose old.faults new.faults

-- these bytes were written, and then it ended with this; or the sink failed
abbrev pub WritesAs : List ℕ → Ended → Taken → Taken → Ended → Type 0
WritesAs bytes ended old new result =
    ((result ≡ ended) × Grew old.bytes new.bytes bytes) ⊎ ((result ≡ Refused WriteFault) × Breaks bytes old new)

-- the result of a world with this plain journal: its trace, or the journal if that isn't lines; or it ended early
abbrev pub Comes : Request → List ℕ → Taken → Taken → Ended → Type 0
Comes request journal old new result =
    ((text : List ℕ) × TracesIn request journal text × WritesAs text Told old new result)
    ⊎ (WritesAs journal (Refused Ok) old new result ⊎ (StopsEarly result × (new.bytes ≡ old.bytes)))

-- the result of a world with this end of its replay, and this written
abbrev pub ComesOf : Request → Status → List ℕ → Taken → Taken → Ended → Type 0
ComesOf request status written old new result =
    ((status ≡ Ok) × Comes request written old new result)
    ⊎ (WritesAs written (Refused status) old new result ⊎ (StopsEarly result × (new.bytes ≡ old.bytes)))

-- a replay of the world over this outside can write these bytes, or a trace of it can
abbrev pub CanWrite : (List ℕ → Option (List ℕ) → Type 0) → Request → Outside → List ℕ → Type 0
CanWrite gives request before bytes =
    ((status : Status) × Replays gives request.world.now before status bytes)
    ⊎ ((journal : List ℕ) × Replays gives request.world.now before Ok journal × TracesIn request journal bytes)

-- the world was replayed to its end, and a text was written that traces what was written then
abbrev pub IsTold : (List ℕ → Option (List ℕ) → Type 0) → Request → Outside → Taken → Taken → Type 0
IsTold gives request before old new =
    (journal text : List ℕ) × Replays gives request.world.now before Ok journal × TracesIn request journal text
    × Grew old.bytes new.bytes text

-- the world's replay ends with this, and what it writes was written
abbrev pub IsReplayed : (List ℕ → Option (List ℕ) → Type 0) → Request → Outside → Status → Taken → Taken → Type 0
IsReplayed gives request before status old new =
    (written : List ℕ) × Replays gives request.world.now before status written × Grew old.bytes new.bytes written

-- the sink failed in what was to be written
abbrev pub IsBroken : (List ℕ → Option (List ℕ) → Type 0) → Request → Outside → Taken → Taken → Type 0
IsBroken gives request before old new = (bytes : List ℕ) × CanWrite gives request before bytes × Breaks bytes old new

-- How the trace ended. Refused is as the world's replay ends; or the sink failed; or it was out of memory or a file
-- couldn't be read again, and nothing was written.
abbrev pub EndsSo : (List ℕ → Option (List ℕ) → Type 0) → Request → Outside → Taken → Taken → Ended → Type 0
EndsSo gives request before old new Told = IsTold gives request before old new
EndsSo gives request before old new (Refused status) =
    IsReplayed gives request before status old new
    ⊎ (((status ≡ WriteFault) × IsBroken gives request before old new)
    ⊎ (((status ≡ NoMemory) ⊎ (status ≡ ReadFault)) × (new.bytes ≡ old.bytes)))
EndsSo gives request before old new TooLong = new.bytes ≡ old.bytes
