-- Where texts are cut.
use Rattle.std.specs.Prelude.{◌≡◌, ℕ, ◌≤◌, List, ◌++◌, length}
use Rattle.std.specs.Str.{encode_utf8_all}
use Rattle.lsl_region.specs.Texts.{cut_name, cut_speech}

-- the longest prefix of a text that has at most this many bytes
pub record IsLongest (most : ℕ) (text cut : List ℕ) : Type 0 where
  pub begins : (rest : List ℕ) × (text ≡ cut ++ rest)
  pub fits : length (encode_utf8_all cut) ≤ most
  pub longest : (first rest : List ℕ) → text ≡ first ++ rest → length (encode_utf8_all first) ≤ most
      → (more : List ℕ) × (cut ≡ first ++ more)

-- what is said is the longest prefix of at most 1,024 bytes
abbrev pub SpeechIsLongest : Type 0
SpeechIsLongest = (text : List ℕ) → IsLongest 1024 text (cut_speech text)

-- a prim's name is the longest prefix of at most 63
abbrev pub NamesAreLongest : Type 0
NamesAreLongest = (text : List ℕ) → IsLongest 63 text (cut_name text)
