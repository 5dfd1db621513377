-- Texts as lists of characters, and what they are charged.
use Rattle.std.specs.Prelude.{◌≡◌, ℕ, ℤ, ◌+◌, ◌≤◌, ◌<◌, true, ◌⊎◌, List, length}
use Rattle.std.specs.Str.{encode_utf8_all, all_scalars, IsUtf8}
use Rattle.lsl_text.specs.Number.{leading_integer_of}
use Rattle.lsl_value.specs.Limits.{most_text_bytes}

-- the characters of some text: each is a character, and in UTF-8 they have at most 1,048,576 bytes
pub record IsText (characters : List ℕ) : Type 0 where
  pub scalars : all_scalars characters ≡ true
  pub within : length (encode_utf8_all characters) ≤ most_text_bytes

-- these bytes are a text's UTF-8
pub record IsTextOf (bytes : List ℕ) (characters : List ℕ) : Type 0 where
  pub spelled : encode_utf8_all characters ≡ bytes
  pub text : IsText characters

-- no text has these bytes
abbrev pub IsNoText : List ℕ → Type 0
IsNoText bytes = ¬ (IsUtf8 bytes) ⊎ (most_text_bytes < length bytes)

-- a text or key is charged 16 and its bytes of UTF-8
abbrev pub text_charge_of : List ℕ → ℕ
text_charge_of text = 16 + length (encode_utf8_all text)

-- the integer that a text begins with
abbrev pub integer_of_text : List ℕ → ℤ
integer_of_text text = leading_integer_of (encode_utf8_all text)
