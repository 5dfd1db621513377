-- The results of a debugger's calls, seen from its page.
use Rattle.std.specs.Prelude.{◌≡◌, ◌<◌, ◌==◌, ℕ, List, [], length, Option, Some, None, nat_le, if◌then◌else◌}
use Rattle.lsl_ports.specs.Shelf.{Files}
use Rattle.lsl_top.specs.Laws.{copies}
use Rattle.lsl_top.specs.Status.{number_of}
use Rattle.lsl_top.specs.Words.{State}
use Rattle.lsl_top.specs.declared.positions.Position.{Position}
use Rattle.lsl_top.specs.declared.status.Status.{Status}
use Rattle.lsl_top.specs.declared.status.Status.TheVariants.{Ok, WriteFault}
use Rattle.lsl_trace.specs.Ended.{EndsSo, taken}
use Rattle.lsl_trace.specs.declared.ended.Request.{Request as Asked}
use Rattle.lsl_trace.specs.declared.ended.Ended.{Ended as Traced}
use Rattle.lsl_trace.specs.declared.ended.Ended.TheVariants.{Told, Refused, TooLong}
use Rattle.lsl_page.specs.Ended.{Ended, outside_of}
use Rattle.lsl_page.specs.Request.{IsAsked, files_in}
use Rattle.lsl_page.specs.declared.place.Place.{Place}

-- a number, or the greatest one of 32 bits
abbrev pub saturated : ℕ → ℕ
saturated n = if nat_le n 4294967295 then n else 4294967295

-- Within a step, after this many segments of it; step 0 is the end of the file. 32 bits count all steps and segments of
-- any world file.
abbrev pub position_of : ℕ → ℕ → Option Position
position_of step segment =
    if step == 0 then None else Some (record { step = saturated step; segment = saturated segment })

-- the file's name and the places are in their form, and a state of the world at this position ended with the status of
-- this number
abbrev pub StateAs : List ℕ → Option Position → List ℕ → List Place → ℕ → ℕ → List ℕ → Type 0
StateAs file at bytes places number room output =
    IsAsked file bytes places
    × ((status : Status) × (number ≡ number_of status)
    × Ended (files_in bytes places) (Some (State at file)) room status output)

-- the number that answers a trace: a journal that is too long counts as an output that doesn't fit
abbrev pub number_of_trace : Traced → ℕ
number_of_trace Told = number_of Ok
number_of_trace (Refused status) = number_of status
number_of_trace TooLong = number_of WriteFault

-- How the trace ended over these files, with this output in a buffer of this many bytes: as `lsl_trace` says over a
-- link that returns what it is sent, if nothing had been written before.
pub record TraceEnds (files : Files) (asked : Asked) (room : ℕ) (ended : Traced) (output : List ℕ) : Type 0 where
  pub refused : ℕ
  pub ends : EndsSo copies asked (outside_of files 0 [] 0) (taken (Some []) 0) (taken (Some output) refused) ended
  -- a write failed only if the buffer was full
  pub full : 0 < refused → length output ≡ room

-- a trace of this file from the first step to the last ended with this number
abbrev pub IsTraced : Files → List ℕ → ℕ → ℕ → ℕ → ℕ → List ℕ → Type 0
IsTraced files file first last number room output =
    (asked : Asked) × (asked.world.now ≡ file) × (asked.first ≡ first) × (asked.last ≡ last)
    × ((ended : Traced) × (number ≡ number_of_trace ended) × TraceEnds files asked room ended output)

-- the file's name and the places are in their form, and its trace ended with this number
abbrev pub TraceAs : List ℕ → ℕ → ℕ → List ℕ → List Place → ℕ → ℕ → List ℕ → Type 0
TraceAs file first last bytes places number room output =
    IsAsked file bytes places × IsTraced (files_in bytes places) file first last number room output
