-- Where lines are cut.
use Rattle.std.specs.Prelude.{◌≡◌, ℕ, ◌≤◌, List, ◌++◌, length}
use Rattle.std.specs.Str.{encode_utf8_all}
use Rattle.lsl_notes.specs.Cutting.{cut_line}

-- the longest prefix of a text that has at most this many bytes
pub record IsLongest (most : ℕ) (text cut : List ℕ) : Type 0 where
  pub begins : (rest : List ℕ) × (text ≡ cut ++ rest)
  pub fits : length (encode_utf8_all cut) ≤ most
  pub longest : (first rest : List ℕ) → text ≡ first ++ rest → length (encode_utf8_all first) ≤ most
      → (more : List ℕ) × (cut ≡ first ++ more)

-- what a script receives of a line is the longest prefix of at most 1,024 bytes
abbrev pub LinesAreLongest : Type 0
LinesAreLongest = (text : List ℕ) → IsLongest 1024 text (cut_line text)
