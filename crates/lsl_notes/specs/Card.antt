-- The lines of a notecard.
use Rattle.std.specs.Prelude.{◌≡◌, ℕ, ◌≤◌, ◌<◌, List, length, map, ⊤}
use Rattle.std.specs.Str.{chars, IsUtf8}
use Rattle.std.specs.Str.Lines.{lines}
use Rattle.lsl_text.specs.declared.Refusal.{Refusal}
use Rattle.lsl_text.specs.declared.Refusal.TheVariants.{Fault, NoMemory}
use Rattle.lsl_notes.specs.declared.faults.CardFault.{CardFault}
use Rattle.lsl_notes.specs.declared.faults.CardFault.TheVariants.{NotText, TooLong}
use Rattle.lsl_notes.specs.Lines.{bad_line, IsFirstBad}

abbrev pub most_card_bytes : ℕ
most_card_bytes = 65536

-- these lines are the notecard of these bytes: a text in UTF-8, not too long, and its lines. Each line is followed by a
-- line feed, except that the last needs none if it isn't empty; a carriage return directly before a line feed belongs
-- to neither
pub record IsCard (bytes : List ℕ) (card : List (List ℕ)) : Type 0 where
  pub within : length bytes ≤ most_card_bytes
  pub text : IsUtf8 bytes
  pub lines : card ≡ map chars (lines bytes)

-- the bytes aren't text, and this is the number of their first line that isn't
pub record IsBad (bytes : List ℕ) (line : ℕ) : Type 0 where
  pub within : length bytes ≤ most_card_bytes
  pub other : ¬ (IsUtf8 bytes)
  pub first : IsFirstBad bytes line
  pub only : line ≡ bad_line bytes

-- why these bytes are no notecard: the limit comes first
abbrev pub IsRefused : List ℕ → Refusal CardFault → Type 0
IsRefused bytes (Fault TooLong) = most_card_bytes < length bytes
IsRefused bytes (Fault (NotText line)) = IsBad bytes line
IsRefused bytes NoMemory = ⊤
