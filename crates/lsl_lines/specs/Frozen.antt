-- A frozen world as a line of text.
use Rattle.std.specs.Prelude.{◌≡◌, ◌⊎◌, ℕ, ◌%◌, ◌≤◌, nat_le, Bool, true, ◌&&◌, ◌||◌, List, [], ◌∷◌, ◌++◌, length, codes}
use Rattle.std.specs.Io.BufRead.{strip_last}
use Rattle.std.specs.List.{after_last, list_all}
use Rattle.lsl_text.specs.Place.{is_line_feed}
use Rattle.lsl_text.specs.declared.Refusal.{Refusal}
use Rattle.lsl_text.specs.declared.Refusal.TheVariants.{Fault, NoMemory}
use Rattle.lsl_image.specs.declared.faults.ImageFault.{ImageFault}
use Rattle.lsl_image.specs.declared.faults.ImageFault.TheVariants.{NotFrozen}
use Rattle.hex.specs.Hex.{IsBytes, encode_lower}

-- how many bytes a text with a frozen world has at most
abbrev pub most_frozen_text : ℕ
most_frozen_text = 2147483647

-- the bytes of a frozen world as digits, after a word
abbrev pub frozen_text : List ℕ → List ℕ
frozen_text bytes = codes "frozen " ++ encode_lower bytes

-- the line of a frozen world
abbrev pub frozen_line : List ℕ → List ℕ
frozen_line bytes = frozen_text bytes ++ 10 ∷ []

-- the last line of a text, which may have no line feed
abbrev pub last_line : List ℕ → List ℕ
last_line text = after_last is_line_feed (strip_last 10 text)

-- a hexadecimal digit that isn't a letter in upper case
abbrev pub is_lower_digit : ℕ → Bool
is_lower_digit c = (nat_le 48 c && nat_le c 57) || (nat_le 97 c && nat_le c 102)

-- the text ends with a line of the word and an even number of digits
pub record HasFrozenLine (text : List ℕ) : Type 0 where
  pub short : length text ≤ most_frozen_text
  pub digits : List ℕ
  pub line : last_line text ≡ codes "frozen " ++ digits
  pub even : length digits % 2 ≡ 0
  pub lower : list_all is_lower_digit digits ≡ true

-- the text ends with the line of these bytes
pub record IsFrozen (text bytes : List ℕ) : Type 0 where
  pub short : length text ≤ most_frozen_text
  pub line : last_line text ≡ frozen_text bytes
  pub fits : IsBytes bytes

-- why a text gives no bytes
abbrev pub IsNotFrozen : Refusal ImageFault → Type 0
IsNotFrozen refusal = (refusal ≡ NoMemory) ⊎ (refusal ≡ Fault NotFrozen)
