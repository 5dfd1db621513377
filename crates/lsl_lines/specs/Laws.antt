-- What holds of lines and words.
use Rattle.std.specs.Prelude.{◌≡◌, ℕ, List, [], ◌∷◌, ◌++◌, Ok}
use Rattle.std.specs.List.{flat_map}
use Rattle.std.specs.Str.{encode_utf8_all}
use Rattle.lsl_text.specs.Quoted.{quoted}
use Rattle.lsl_value.specs.Text.{IsText}
use Rattle.lsl_lines.specs.Lines.{lines_of}
use Rattle.lsl_lines.specs.Words.{Quoted, words_of}

-- a text as it is written between quotes is one word, and is read as that text
abbrev pub ReadBack : Type 0
ReadBack = (text : List ℕ) → IsText text → words_of (quoted (encode_utf8_all text)) ≡ Ok (Quoted text ∷ [])

-- the line has no line feed, and no carriage return at its end
pub record IsLine (line : List ℕ) : Type 0 where
  pub no_feed : (front rest : List ℕ) → line ≡ front ++ 10 ∷ rest → ⊥
  pub no_return : (front : List ℕ) → line ≡ front ++ 13 ∷ [] → ⊥

abbrev pub EachLine : List (List ℕ) → Type 0
EachLine [] = Unit {0}
EachLine (line ∷ lines) = IsLine line × EachLine lines

-- lines that are written with this at their ends are cut again as they were
abbrev pub CutAgain : List ℕ → Type 0
CutAgain end = (lines : List (List ℕ)) → EachLine lines → lines_of (flat_map (λ line. line ++ end) lines) ≡ lines
