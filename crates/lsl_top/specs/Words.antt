-- What a command's words ask for.
use Rattle.std.specs.Prelude.{ℕ, nat_le, nat_lt, Bool, false, ◌==◌, ◌&&◌, not, codes, decimal, List, [], ◌∷◌, Option, Some, None, option_map, if◌then◌else◌, map, string_bytes, String}
use Rattle.std.specs.Str.{bytes_eq}
use Rattle.std.specs.Str.Parse.{digits_value}
use Rattle.lsl_top.specs.declared.positions.Position.{Position}

-- a command
pub data Command : Type 0 where
  -- runs the script of a file, in a world of its own
  Once : (file : List ℕ) → Command
  -- accepts the script of a file, or refuses it
  Check : (file : List ℕ) → Command
  -- runs a world file
  Replay : (world : List ℕ) → Command
  -- runs a world file, in which objects are handed over by notes
  Lossy : (world : List ℕ) → Command
  -- runs a world file, and freezes the world to which its steps lead
  Freeze : (world : List ℕ) → Command
  -- runs a world file from the frozen world of another file
  Thaw : (frozen world : List ℕ) → Command
  -- shows where the scripts of a frozen world are in their code; the world is that of a world file, the second
  View : (frozen world : List ℕ) → Command
  -- runs the world generated from a seed
  Make : (number : ℕ) → Command
  -- runs a world file up to a position, or to its end, and shows all that the world holds there. No words ask for it
  State : (at : Option Position) → (world : List ℕ) → Command

-- a word that may name a file: it isn't empty, and doesn't begin with `-`
abbrev pub names_file : List ℕ → Bool
names_file [] = false
names_file (c ∷ word) = not (c == 45)

-- the number is from 1 to 1,000,000, and the word its decimal digits
abbrev pub is_number_of : List ℕ → ℕ → Bool
is_number_of word number = (nat_lt 0 number && nat_le number 1000000) && bytes_eq word (decimal number)

-- the number of a word, if it has one
abbrev pub number_in : List ℕ → Option ℕ
number_in word = let number = digits_value 10 word in if is_number_of word number then Some number else None

-- the command of this word, for a file or a number
abbrev pub command_named : List ℕ → List ℕ → Option Command
command_named word file = if bytes_eq word (codes "once") then Some (Once file)
    else if bytes_eq word (codes "check") then Some (Check file)
    else if bytes_eq word (codes "replay") then Some (Replay file)
    else if bytes_eq word (codes "freeze") then Some (Freeze file)
    else if bytes_eq word (codes "make") then option_map Make (number_in file) else None

-- the command of this word, for two files
abbrev pub command_of_two : List ℕ → List ℕ → List ℕ → Option Command
command_of_two word first second = if bytes_eq word (codes "thaw") then Some (Thaw first second)
    else if bytes_eq word (codes "view") then Some (View first second) else None

-- the command of this word with the flag `--lossy`
abbrev pub command_of_lossy : List ℕ → List ℕ → Option Command
command_of_lossy word file = if bytes_eq word (codes "replay") then Some (Lossy file) else None

abbrev pub command_in : List (List ℕ) → Option Command
command_in (word ∷ file ∷ []) = if names_file file then command_named word file else None
command_in (word ∷ first ∷ second ∷ []) =
    if bytes_eq first (codes "--lossy") && names_file second then command_of_lossy word second
    else if names_file first && names_file second then command_of_two word first second else None
command_in _ = None

-- what the words ask for, or none where they aren't a command
abbrev pub command_of : {Z : Type 0} → List (String Z) → Option Command
command_of words = command_in (map string_bytes words)
