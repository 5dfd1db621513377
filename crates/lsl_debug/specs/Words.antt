-- What the words of a command ask for.
use Rattle.std.specs.Prelude.{ℕ, nat_lt, Bool, false, ◌==◌, ◌&&◌, not, codes, length, List, [], ◌∷◌, Option, Some, None, option_map, if◌then◌else◌, map, string_bytes, String}
use Rattle.std.specs.Char.{is_ascii_digit}
use Rattle.std.specs.List.{list_all}
use Rattle.std.specs.Str.{bytes_eq}
use Rattle.std.specs.Str.Parse.{digits_value}

-- a command
pub data Command : Type 0 where
  -- runs a world file up to a step and segments of it, and shows the world
  StateAt : (step segment : ℕ) → (world : List ℕ) → Command
  -- runs a world file to its end, and shows the world
  State : (world : List ℕ) → Command
  -- traces a world file, for the steps from the first to the last
  Trace : (first last : ℕ) → (world : List ℕ) → Command
  -- shows where a move over the trace of a file leads from a moment; without a move the moment itself
  Moment : (trace : List ℕ) → (moment : ℕ) → (move : List (List ℕ)) → Command
  -- shows the stops of the trace of a file
  Stops : (trace : List ℕ) → Command

-- a word that may name a file: it isn't empty, and doesn't begin with `-`
abbrev pub names_file : List ℕ → Bool
names_file [] = false
names_file (c ∷ word) = not (c == 45)

-- whether a word is decimal digits, of a number below 2^32
abbrev pub is_number : List ℕ → Bool
is_number word =
    nat_lt 0 (length word) && (list_all is_ascii_digit word && nat_lt (digits_value 10 word) 4294967296)

-- the number of a word, if it is one
abbrev pub number_in : List ℕ → Option ℕ
number_in word = if is_number word then Some (digits_value 10 word) else None

-- a step, counted from 1, and segments of it
abbrev pub position_of : Option ℕ → Option ℕ → Option (ℕ × ℕ)
position_of (Some step) (Some segment) = if nat_lt 0 step then Some (step, segment) else None
position_of step segment = None

abbrev pub position_in : List ℕ → List ℕ → Option (ℕ × ℕ)
position_in step segment = position_of (number_in step) (number_in segment)

-- what comes of a number, if there is one
abbrev pub with_number : Option ℕ → (ℕ → Option Command) → Option Command
with_number None made = None
with_number (Some number) made = made number

-- a command for this file, if the word may name one
abbrev pub for_file : List ℕ → (List ℕ → Command) → Option Command
for_file word made = if names_file word then Some (made word) else None

abbrev pub state_of : List (List ℕ) → Option Command
state_of (world ∷ []) = for_file world State
state_of (flag ∷ step ∷ segment ∷ world ∷ []) = if bytes_eq flag (codes "--at") && names_file world
    then option_map (λ (at : ℕ × ℕ). StateAt at.0 at.1 world) (position_in step segment) else None
state_of _ = None

-- the steps from a first one on, up to a last one
abbrev pub trace_to : ℕ → List (List ℕ) → Option Command
trace_to first (world ∷ []) = for_file world (Trace first 18446744073709551615)
trace_to first (flag ∷ last ∷ world ∷ []) = if bytes_eq flag (codes "--to")
    then with_number (number_in last) (λ k. for_file world (Trace first k)) else None
trace_to first _ = None

abbrev pub trace_of : List (List ℕ) → Option Command
trace_of (flag ∷ first ∷ words) = if bytes_eq flag (codes "--from")
    then with_number (number_in first) (λ k. trace_to k words) else trace_to 0 (flag ∷ first ∷ words)
trace_of words = trace_to 0 words

abbrev pub seek_of : List (List ℕ) → Option Command
seek_of (trace ∷ moment ∷ move) =
    with_number (number_in moment) (λ n. for_file trace (λ file. Moment file n move))
seek_of _ = None

abbrev pub stops_of : List (List ℕ) → Option Command
stops_of (trace ∷ []) = for_file trace Stops
stops_of _ = None

-- the command of this word, with the words after it
abbrev pub command_named : List ℕ → List (List ℕ) → Option Command
command_named word words = if bytes_eq word (codes "state") then state_of words
    else if bytes_eq word (codes "trace") then trace_of words
    else if bytes_eq word (codes "seek") then seek_of words
    else if bytes_eq word (codes "stops") then stops_of words else None

abbrev pub command_in : List (List ℕ) → Option Command
command_in [] = None
command_in (word ∷ words) = command_named word words

-- what the words ask for, or none where they are no command
abbrev pub command_of : {Z : Type 0} → List (String Z) → Option Command
command_of words = command_in (map string_bytes words)
