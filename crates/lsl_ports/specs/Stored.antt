-- What the objects in memory are to their callers.
use Rattle.std.specs.Prelude.{◌≡◌, ◌∷◌, Option, Some, None, ℕ, ◌+◌, ◌-◌, min, ◌==◌, nat_lt, Bool, ◌&&◌, ◌||◌, not, List, [], ◌++◌, length, take, fold, option_map, slice_get, slice_index, slice_set, replicate, position, unwrap_or, if◌then◌else◌}
use Rattle.std.specs.List.{list_any, find}
use Rattle.std.specs.Str.{bytes_eq}
use Rattle.lsl_ports.specs.Counts.{raised}
use Rattle.lsl_ports.specs.Shelf.{Files}
use Rattle.lsl_ports.specs.Trips.{Trip}

-- a file in memory
pub record NamedBytes : Type 0 where
  pub name : List ℕ
  pub bytes : List ℕ

-- a shelf in memory: its files, the counts of their faults and then that of all other names, the numbers of the calls
-- that fail, and how many calls there were
pub record ShelfState : Type 0 where
  pub files : List NamedBytes
  pub faults : List ℕ
  pub failing : List ℕ
  pub calls : ℕ

-- a sink in memory: what it took, how many bytes it has room for in all, the greatest count that one call takes,
-- the numbers of the calls that fail, how many calls there were, and the count of its faults
pub record SinkState : Type 0 where
  pub taken : List ℕ
  pub room : ℕ
  pub most : ℕ
  pub failing : List ℕ
  pub calls : ℕ
  pub faults : ℕ

-- a byte that is changed in what comes back of the call of that number
pub record DamagedByte : Type 0 where
  pub call : ℕ
  pub place : ℕ
  pub byte : ℕ

-- bytes that come back of the call of that number, in place of those that were sent
pub record ReplacedBytes : Type 0 where
  pub call : ℕ
  pub bytes : List ℕ

-- a link in memory: its trips, the numbers of the calls that fail, the damages and the replacements of what comes
-- back, how many calls there were, and the count of its faults
pub record LinkState : Type 0 where
  pub trips : List Trip
  pub failing : List ℕ
  pub damages : List DamagedByte
  pub replacements : List ReplacedBytes
  pub calls : ℕ
  pub faults : ℕ

-- the call after these many is one that fails
abbrev pub fails_next : List ℕ → ℕ → Bool
fails_next failing calls = list_any (λ number. number == raised calls) failing

-- a shelf at its start
abbrev pub new_shelf : List NamedBytes → List ℕ → ShelfState
new_shelf files failing = record {
  files = files;
  faults = replicate (length files + 1) 0;
  failing =
      failing;
  calls = 0;
}

-- the place of the first file of that name, or the count of files where there is none
abbrev pub place_of : List NamedBytes → List ℕ → ℕ
place_of files name = unwrap_or (position (λ file. bytes_eq file.name name) files) (length files)

-- the files by name
abbrev pub files_of : List NamedBytes → Files
files_of files name = option_map (λ file. file.bytes) (slice_get files (place_of files name))

-- the count of a name's faults
abbrev pub faults_of : ShelfState → List ℕ → ℕ
faults_of s name = slice_index s.faults (place_of s.files name)

-- the next call fails: it is set to fail, or there is no file of that name
abbrev pub fails_at : ShelfState → List ℕ → Bool
fails_at s name = fails_next s.failing s.calls || (place_of s.files name == length s.files)

-- the shelf after a call for that name
abbrev pub after_read : ShelfState → List ℕ → ShelfState
after_read s name =
    record {
      files = s.files;
      faults = if fails_at s name then slice_set s.faults (place_of s.files name) (raised (faults_of s name))
          else s.faults;
      failing = s.failing;
      calls = raised s.calls;
    }

-- a sink at its start
abbrev pub new_sink : ℕ → ℕ → List ℕ → SinkState
new_sink room most failing =
    record { taken = []; room = room; most = most; failing = failing; calls = 0; faults = 0 }

-- the next call with a piece fails: it is set to fail, or the piece isn't empty and the sink is full
abbrev pub refuses : SinkState → List ℕ → Bool
refuses s piece = fails_next s.failing s.calls || ((length s.taken == s.room) && not (length piece == 0))

-- what the next call takes of a piece
abbrev pub taken_of : SinkState → List ℕ → List ℕ
taken_of s piece = if refuses s piece then [] else take (min s.most (s.room - length s.taken)) piece

-- the sink after a call with that piece
abbrev pub after_write : SinkState → List ℕ → SinkState
after_write s piece =
    record {
      taken = s.taken ++ taken_of s piece;
      room = s.room;
      most = s.most;
      failing = s.failing;
      calls = raised s.calls;
      faults = if refuses s piece then raised s.faults else s.faults;
    }

-- a link at its start
abbrev pub new_link : List ℕ → List DamagedByte → List ReplacedBytes → LinkState
new_link failing damages replacements =
    record {
      trips = [];
      failing = failing;
      damages = damages;
      replacements = replacements;
      calls = 0;
      faults = 0;
    }

-- what comes back of a call before it is damaged: the first replacement of its number, or what was sent
abbrev pub replaced : List ReplacedBytes → ℕ → List ℕ → List ℕ
replaced replacements call sent =
    unwrap_or (option_map (λ (r : ReplacedBytes). r.bytes) (find (λ (r : ReplacedBytes). r.call == call) replacements))
    sent

-- bytes with one damage, if it is of that call; one beyond the end changes nothing
abbrev pub damaged_by : ℕ → List ℕ → DamagedByte → List ℕ
damaged_by call bytes d =
    if (d.call == call) && nat_lt d.place (length bytes) then slice_set bytes d.place d.byte else bytes

-- bytes with all damages of that call, in order
abbrev pub damaged : List DamagedByte → ℕ → List ℕ → List ℕ
damaged damages call bytes = fold (damaged_by call) bytes damages

-- what comes back of the next call
abbrev pub back_of : LinkState → List ℕ → Option (List ℕ)
back_of s sent =
    if fails_next s.failing s.calls then None
    else Some (damaged s.damages (raised s.calls) (replaced s.replacements (raised s.calls) sent))

-- both links fail, damage and replace at the same calls
pub record HasListsOf (s t : LinkState) : Type 0 where
  pub failing : s.failing ≡ t.failing
  pub damages : s.damages ≡ t.damages
  pub replacements : s.replacements ≡ t.replacements

-- the link after a call with these bytes
abbrev pub after_carry : LinkState → List ℕ → LinkState
after_carry s sent =
    record {
      trips = s.trips ++ record { sent = sent; back = back_of s sent } ∷ [];
      failing = s.failing;
      damages = s.damages;
      replacements = s.replacements;
      calls = raised s.calls;
      faults = if fails_next s.failing s.calls then raised s.faults else s.faults;
    }
