-- Where the lines of a text begin.
use Rattle.std.specs.Prelude.{◌≡◌, ℕ, ◌+◌, ◌*◌, ◌≤◌, ◌<◌, List, length, drop, slice_index}
use Rattle.std.specs.Str.{IsCharBoundary}
use Rattle.std.specs.Str.Lines.{lines}

-- the lines from this number on are those of the text from this place on
pub record IsPlace (text : List ℕ) (line place : ℕ) : Type 0 where
  pub boundary : IsCharBoundary text place
  pub rest : drop line (lines text) ≡ lines (drop place text)

-- of `count` lines, each eighth from the first on has its place
pub record HavePlaces (text places : List ℕ) (count : ℕ) : Type 0 where
  pub enough : count ≤ 8 * length places
  pub few : 8 * length places < count + 8
  pub each : (i : ℕ) → i < length places → IsPlace text (8 * i) (slice_index places i)

-- of all lines
pub record ArePlaces (text places : List ℕ) (count : ℕ) : Type 0 where
  pub short : length text ≤ 65536
  pub counted : count ≡ length (lines text)
  pub have : HavePlaces text places count
