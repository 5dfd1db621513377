-- Laws of notecards.
use Rattle.std.specs.Prelude.{◌≡◌, ◌≢◌, ℕ, ◌≤◌, ◌<◌, ◌^◌, List, [], ◌∷◌, ◌++◌, length, Option, Some, None, slice_get, ⊤}
use Rattle.std.specs.Str.{chars, IsUtf8}
use Rattle.std.specs.Str.Lines.{lines}
use Rattle.lsl_notes.specs.Card.{IsCard}
use Rattle.lsl_notes.specs.Cutting.{cut_line}
use Rattle.lsl_notes.specs.Lines.{HasNoFeed, IsFirstBad}
use Rattle.lsl_notes.specs.Notecards.{data_of, end_of_card}
use Rattle.lsl_notes.specs.Queries.{query_of}

-- Asking for lines 0, 1 and on gives each line, cut, then the end: at the count, and at every later number.
pub record IsReadThrough (bytes : List ℕ) (card : List (List ℕ)) : Type 0 where
  pub count : length card ≡ length (lines bytes)
  pub each : (i : ℕ) (line : List ℕ) → slice_get (lines bytes) i ≡ Some line
      → data_of card i ≡ cut_line (chars line)
  pub behind : (i : ℕ) → length card ≤ i → data_of card i ≡ end_of_card

abbrev pub CardsAreReadThrough : Type 0
CardsAreReadThrough = (bytes : List ℕ) (card : List (List ℕ)) → IsCard bytes card → IsReadThrough bytes card

-- The line doesn't end with a carriage return.
abbrev pub EndsInNoReturn : List ℕ → Type 0
EndsInNoReturn line = (front : List ℕ) → line ≢ front ++ 13 ∷ []

-- How bytes are cut into lines.
pub record AreCutAtFeeds : Type 0 where
  pub none : lines [] ≡ []
  pub fed : (line rest : List ℕ) → HasNoFeed line → EndsInNoReturn line
      → lines (line ++ 10 ∷ rest) ≡ line ∷ lines rest
  pub returned : (line rest : List ℕ) → HasNoFeed line → lines (line ++ 13 ∷ 10 ∷ rest) ≡ line ∷ lines rest
  pub last : (line : List ℕ) → HasNoFeed line → 0 < length line → lines line ≡ line ∷ []

-- In a text each line is one.
abbrev pub TextsHaveNoBadLine : Type 0
TextsHaveNoBadLine = (bytes : List ℕ) (number : ℕ) → IsUtf8 bytes → ¬ (IsFirstBad bytes number)

-- The number of a line has 32 bits.
abbrev pub FitsLine : Option ℕ → Type 0
FitsLine None = ⊤
FitsLine (Some line) = line < 2 ^ 32

-- A query for a line, or for a count, that a script may make.
pub record IsQuery (script card : ℕ) (line : Option ℕ) : Type 0 where
  pub by : script < 2 ^ 32
  pub of : card < 2 ^ 16
  pub asked : FitsLine line

-- Queries of different script, card, line or kind differ.
abbrev pub QueriesDiffer : Type 0
QueriesDiffer =
    (script other card second : ℕ) (line more : Option ℕ) → IsQuery script card line → IsQuery other second more
    → query_of script card line ≡ query_of other second more → (script ≡ other) × (card ≡ second) × (line ≡ more)
