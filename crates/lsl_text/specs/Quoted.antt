-- Quoted text.
use Rattle.std.specs.Prelude.{ℕ, ◌≡◌, ◌+◌, ◌<◌, ◌==◌, if◌then◌else◌, ◌||◌, List, [], ◌∷◌, ◌++◌, length, take, slice_index}
use Rattle.std.specs.List.{flat_map}

-- a byte of a quoted text: `"` and `\` follow a `\`, a line feed is `\n`, any other is itself
abbrev pub escaped : ℕ → List ℕ
escaped b = if b == 34 || b == 92 then 92 ∷ b ∷ [] else (if b == 10 then 92 ∷ 110 ∷ [] else b ∷ [])

-- a text between quotes
abbrev pub quoted : List ℕ → List ℕ
quoted text = 34 ∷ (flat_map escaped text ++ 34 ∷ [])

-- the bytes before this place need no escape
pub record EscapesAt (text : List ℕ) (place : ℕ) : Type 0 where
  pub within : place < length text
  pub run : flat_map escaped (take (place + 1) text) ≡ take place text ++ escaped (slice_index text place)
