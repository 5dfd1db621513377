-- The words of a line: plain ones, and quoted texts.
use Rattle.std.specs.Prelude.{ℕ, ◌==◌, nat_le, Bool, true, cond, ◌&&◌, ◌||◌, List, [], ◌∷◌, ◌++◌, length, Result, Ok, Err}
use Rattle.std.specs.Str.{chars, is_utf8}
use Rattle.lsl_value.specs.Limits.{most_text_bytes}
use Rattle.lsl_lines.specs.Checks.{◌>>=◌, fault_unless}
use Rattle.lsl_lines.specs.declared.faults.FileKind.{FileKind}
use Rattle.lsl_lines.specs.declared.faults.FileKind.TheVariants.{BadLine}

-- a word: the bytes between blanks, or the text between quotes
pub data Word : Type 0 where
  Plain : List ℕ → Word
  Quoted : List ℕ → Word

-- a tab or a space
abbrev pub is_blank : ℕ → Bool
is_blank b = b == 9 || b == 32

-- the line has no word, or its first word begins with `#`
abbrev pub is_skipped : List ℕ → Bool
is_skipped [] = true
is_skipped (b ∷ line) = cond (is_blank b) (is_skipped line) (b == 35)

-- the characters of bytes that are UTF-8
abbrev pub text_of : List ℕ → Result (List ℕ) FileKind
text_of bytes = fault_unless (is_utf8 bytes && nat_le (length bytes) most_text_bytes) BadLine (Ok (chars bytes))

-- the character for a quote, a backslash and a line feed after a backslash
abbrev pub escape_of : ℕ → Result ℕ FileKind
escape_of b = cond (b == 34 || b == 92) (Ok b) (cond (b == 110) (Ok 10) (Err BadLine))

abbrev mutual
  -- the words from here on, where a word may begin
  pub words_of : List ℕ → Result (List Word) FileKind
  words_of [] = Ok []
  words_of (b ∷ line) =
      cond (is_blank b) (words_of line)
      (cond (b == 34) (quoted_words [] line) (plain_words (b ∷ []) line))

  -- the same within a plain word, given its bytes so far
  pub plain_words : List ℕ → List ℕ → Result (List Word) FileKind
  plain_words front [] = Ok (Plain front ∷ [])
  plain_words front (b ∷ line) =
      cond (is_blank b) (words_of line >>= λ words. Ok (Plain front ∷ words))
      (plain_words (front ++ b ∷ []) line)

  -- within a quoted word, given the bytes of its text so far
  pub quoted_words : List ℕ → List ℕ → Result (List Word) FileKind
  quoted_words front [] = Err BadLine
  quoted_words front (b ∷ line) =
      cond (b == 34) (text_of front >>= λ text. behind_quote text line)
      (cond (b == 92) (escaped_words front line) (quoted_words (front ++ b ∷ []) line))

  -- after a backslash in a quoted word
  pub escaped_words : List ℕ → List ℕ → Result (List Word) FileKind
  escaped_words front [] = Err BadLine
  escaped_words front (b ∷ line) = escape_of b >>= λ e. quoted_words (front ++ e ∷ []) line

  -- after a quoted word: a blank, or the line's end
  pub behind_quote : List ℕ → List ℕ → Result (List Word) FileKind
  behind_quote text [] = Ok (Quoted text ∷ [])
  behind_quote text (b ∷ line) =
      fault_unless (is_blank b) BadLine (words_of line >>= λ words. Ok (Quoted text ∷ words))
